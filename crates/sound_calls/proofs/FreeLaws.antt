-- The free: what the code makes of sound input is what the promise says. Rule 5 on record and words is rule 5 on the heap, and a word that may
-- be freed heads a block out of the order that it tells.
use Rattle.common.specs.Kit.{ℕ, ◌-◌, ◌≤◌, ◌<◌, ◌≡◌, refl, ap, true, false, cond, List, [], ◌∷◌, ltb, ltb-false, Option, Some, None}
use Rattle.common.proofs.Tests.{by-test}
use Rattle.buddy.specs.Heap.{Heap}
use Rattle.buddy.specs.Request.{on, to_free}
use Rattle.buddy.specs.Rules.{free_page}
use Rattle.buddy.proofs.Pages.{OutHead, out-block}
use Rattle.pages.specs.Said.{said}
use Rattle.region.specs.State.{st, if_at}
use Rattle.region.specs.Steps.{free_from, FreeOk}
use Rattle.refine.specs.Image.{heap_of}
use Rattle.region.specs.declared.HeapMemoryRegion.{HeapMemoryRegion}
use Rattle.region.specs.Layout.{managed}
use Rattle.refine.proofs.Step.{Rule}
use Rattle.refine.proofs.Free.{free-image}
use Rattle.sound_calls.specs.Answer.{ok, no}
use Rattle.sound_calls.specs.Promise.{kept, became, on_page, does_at, does}
use Rattle.sound_calls.specs.Code.{freeable, leaves}
use Rattle.sound_calls.proofs.SoundInput.{SoundInput, lent, fit, is-image}
use Rattle.sound_calls.proofs.Places.{on_same}
use Rattle.sound_calls.proofs.Heads.{may_free_lem, freeable-out}

module _ {r : HeapMemoryRegion} {ws : List ℕ} (good : SoundInput r ws) where
  abbrev h : Heap
  h = heap_of r ws

  -- a block out is freed
  pub out-frees : {o p : ℕ} → OutHead (managed r ws) h.at o p
      → Rule (managed r ws) r (FreeOk (5 - o) p o (st r ws)) (free_from (5 - o) p o (st r ws)) (free_page (managed r ws) h p)
  unfolding free_page
  out-frees out = rw (is-image good, out.order) (rw out.head at
      (free-image (fit good) (lent good) (out-block (fit good).fits.core.tiled out)))

  pub free-ok : (p o : ℕ) → r.allocated ≤ p → p < r.page_count → freeable (said ws p) ≡ Some o → FreeOk (5 - o) p o (st r ws)
  free-ok p o boot l e = (out-frees (freeable-out good.sound p o boot l e)).ok

  pub free-code : (a : ℕ)
      → on_page r ws a (λ p.
      cond (ltb p r.allocated) (kept r ws (no 8 (a ∷ [])))
      (if_at (freeable (said ws p)) (λ o. leaves (ok []) (free_from (5 - o) p o (st r ws))) (kept r ws (no 9 (a ∷ [])))))
      ≡ does r ws (on to_free a)
  unfolding does does_at
  free-code a = on_same r ws a _ _ (λ p l. by-test (ltb p r.allocated)
      (λ t. rw t)
      (λ t. rw (t, may_free_lem (said ws p)) (go p l (ltb-false p r.allocated t) (freeable (said ws p)) refl)))
    where
      go : (p : ℕ) → p < r.page_count → r.allocated ≤ p → (f : Option ℕ) → freeable (said ws p) ≡ f
          → if_at f (λ o. leaves (ok []) (free_from (5 - o) p o (st r ws))) (kept r ws (no 9 (a ∷ [])))
          ≡ cond (if_at f (λ o. true) false) (became r (free_page (managed r ws) h p) (ok [])) (kept r ws (no 9 (a ∷ [])))
      go p l boot (Some o) e = ap (leaves (ok [])) (out-frees (freeable-out good.sound p o boot l e)).leaves
      go p l boot None e = refl
