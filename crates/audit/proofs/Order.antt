-- The lines of soundness in the order in which the code takes them: the lists last, after the walk.
use Rattle.common.specs.Kit.{ℕ, ◌≡◌, ap, ◌∙◌, Bool, true, ◌&&◌, and-true, and_assoc, List}
use mathlib.Core.Bool.{and_comm}
use Rattle.region.specs.declared.HeapMemoryRegion.{HeapMemoryRegion}
use Rattle.audit.specs.Check.{keeps, every, numbers, sound_b, boot, metadata, tiled, lists, buddies, totals, free}
use Rattle.audit.specs.Survey.{edges, inner}

lists-last :
    (b m t l u n f : Bool) →
    ((b && (m && (t && true))) && (l && (u && (n && (f && true))))) ≡ ((b && (m && true)) && (t && (u && (n && (f && (l && true))))))
lists-last b m t l u n f = simp (and-true, and_assoc) (ap (λ x. b && (m && (t && x))) (and_comm l (u && (n && f)) ∙ simp and_assoc))

pub sound-order :
    (r : HeapMemoryRegion) (ws : List ℕ) →
    sound_b r ws ≡ every (keeps r ws) numbers && (every (keeps r ws) edges && every (keeps r ws) inner)
unfolding sound_b
sound-order r ws =
    let k = keeps r ws in
    ap (λ x. every k numbers && x) (lists-last (k boot) (k metadata) (k tiled) (k lists) (k buddies) (k totals) (k free))
