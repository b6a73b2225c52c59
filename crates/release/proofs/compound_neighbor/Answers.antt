-- The tests pick the case of `neighbor`. Where the arms meet, the page is the buddy.
use Rattle.common.specs.Kit.{ℕ, ◌+◌, ◌*◌, ◌^◌, ◌≡◌, ◌∙◌, add-one, eq-eqb, ne_eqb, lt-ltb, le-ltb}
use native.Mathlib.Nat.{pow-succ'}
use Rattle.region.specs.Pages.{buddy_of}
use Rattle.region.specs.Steps.{neighbor}
use Rattle.release.proofs.compound_neighbor.Goals as goal
use Rattle.release.proofs.compound_neighbor.Goals.{Joined-pfn-half-eq0, then-pfn-half-eq0, else-pfn-half-eq0}

-- a block and its buddy have twice the pages
pow-next : (o : ℕ) → 2 ^ (o + 1) ≡ 2 * 2 ^ o
pow-next o = rw (add-one o, pow-succ' 2 o)

mate : (c : Joined-pfn-half-eq0) → c.if-pfn-half-eq0.mate ≡ buddy_of c.args.order c.args.pfn
unfolding buddy_of
mate c =
    rw (pow-next c.args.order, ← c.size-half.ensures)
    (elim c.if-pfn-half-eq0.branch [
      | then-pfn-half-eq0 w ↦ w.mate-is ∙ simp (eq-eqb _ _ w.if-pfn-half-eq0.true)
      | else-pfn-half-eq0 w ↦ w.mate-is ∙ simp (ne_eqb _ _ w.if-pfn-half-eq0.false)
    ])

pub returns-then-mate-page_count : goal.returns-then-mate-page_count
unfolding neighbor
returns-then-mate-page_count c =
    rw (← mate (goal.at.returns-then-mate-page_count c).Joined-pfn-half-eq0)
    (simp (lt-ltb _ _ c.if-order.false, lt-ltb _ _ c.if-mate-page_count.true))

pub returns-else-mate-page_count : goal.returns-else-mate-page_count
unfolding neighbor
returns-else-mate-page_count c =
    rw (← mate (goal.at.returns-else-mate-page_count c).Joined-pfn-half-eq0)
    (simp (lt-ltb _ _ c.if-order.false, le-ltb _ _ c.if-mate-page_count.false))
