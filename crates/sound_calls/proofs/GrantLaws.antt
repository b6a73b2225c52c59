-- The grants: what the code makes of sound input is what the promises say. Rule 4 on record and words is rule 4 on the heap, and the address
-- of the page granted is written in 64 bits.
use Rattle.common.specs.Kit.{ℕ, ◌<◌, ◌≡◌, refl, ap, ◌∙◌, ◌≢◌, true, false, List, [], ◌∷◌, arith, lt-ltb, Some, None}
use Rattle.words.specs.declared.word.PageInfo.{PageInfo}
use Rattle.buddy.specs.Runs.{first}
use Rattle.buddy.specs.Heap.{Kind, free, slab, file, Tag, good_item, Heap}
use Rattle.buddy.specs.Request.{for_block, for_file, for_slab}
use Rattle.buddy.specs.Rules.{Grant, refused, granted, allocate, grant_as, file_page, slab_page}
use Rattle.buddy.proofs.RunLaws.{cell-first}
use Rattle.buddy.proofs.Refill.{Allocated, none, some, allocated}
use Rattle.buddy.proofs.Grant.{InHand}
use Rattle.buddy.proofs.Pages.{slab≢free, file≢free}
use Rattle.pages.specs.Info.{allocated_info, slab_info, file_info}
use Rattle.region.specs.State.{State, st, if_at}
use Rattle.region.specs.Steps.{lowest_from, grant_page, grant, GrantOk}
use Rattle.refine.specs.Image.{head_info, heap_of, region_of, image}
use Rattle.region.specs.declared.HeapMemoryRegion.{HeapMemoryRegion}
use Rattle.region.specs.Layout.{managed}
use Rattle.refine.proofs.Grant.{Grants, grant-image}
use Rattle.refine.proofs.Refill.{lowest-none, lowest-at}
use Rattle.sound_calls.specs.Answer.{no}
use Rattle.sound_calls.specs.Promise.{kept, grants, slab_grants, does}
use Rattle.sound_calls.specs.Code.{code_grants}
use Rattle.sound_calls.proofs.SoundInput.{SoundInput, lent, fit, is-image}
use Rattle.sound_calls.proofs.Places.{address-told}

module _ {r : HeapMemoryRegion} {ws : List ℕ} (good : SoundInput r ws) where
  abbrev h : Heap
  h = heap_of r ws

  pub grants-image : (o : ℕ) → o < 6 → Grants (managed r ws) r h o (allocate h o)
  grants-image o l = grant-image (fit good) (lent good) o (omega arith)

  pub grant-ok : (o : ℕ) → o < 6 → GrantOk o (st r ws)
  grant-ok o l = rw (is-image good) (go (allocate h o) (grants-image o l))
    where
      go : (a : Grant) → Grants (managed r ws) r h o a → GrantOk o (image r h)
      go refused d = d.ok
      go (granted g c) d = d.ok

  -- the page that the code grants and the state that it leaves are those of an answer
  abbrev Leaves : ℕ → PageInfo → Grant → Type 0
  Leaves o i refused = (grant_page o (st r ws) ≡ None) × (grant o i (st r ws) ≡ st r ws)
  Leaves o i (granted g c) = (grant_page o (st r ws) ≡ Some (first o c)) × (grant o i (st r ws) ≡ image r g) × (first o c < r.page_count)

  leaves-grants : (o : ℕ) (i : PageInfo) (a : Grant) → Leaves o i a → code_grants o i (st r ws) ≡ grants r ws o a
  unfolding code_grants grants
  leaves-grants o i refused l = rw (l.0, l.1)
  leaves-grants o i (granted g c) l = rw (l.0, l.1, address-told good.sound (first o c) l.2)

  hand-page : {at : ℕ → Tag} {o c : ℕ} → InHand (managed r ws) at o c → first o c < r.page_count
  hand-page {o = o} {c = c} hand = omega (arith, (fit good).fits.within (first o c) (hand.managed (first o c) (cell-first o c)))

  leaves-block : (o : ℕ) (a : Grant) → Grants (managed r ws) r h o a → Leaves o (allocated_info o) a
  leaves-block o refused d = rw (is-image good) (d.answers, d.leaves _)
  leaves-block o (granted g c) d = rw (is-image good) (d.answers, d.leaves, hand-page d.hand)

  leaves-page : (k : Kind) → k ≢ free → (a : Grant) → Grants (managed r ws) r h 0 a → Leaves 0 (head_info k 0 0) (grant_as k a)
  unfolding grant_as
  leaves-page k busy refused d = rw (is-image good) (d.answers, d.leaves _)
  leaves-page k busy (granted g c) d = rw (is-image good) (d.answers, d.labels k busy 0, hand-page d.hand)

  pub allocate-code : (o : ℕ) → o < 6 → code_grants o (allocated_info o) (st r ws) ≡ does r ws (for_block o)
  unfolding does
  allocate-code o l = rw (lt-ltb o 6 l) (leaves-grants o (allocated_info o) (allocate h o) (leaves-block o (allocate h o) (grants-image o l)))

  page-code : (k : Kind) → k ≢ free → code_grants 0 (head_info k 0 0) (st r ws) ≡ grants r ws 0 (grant_as k (allocate h 0))
  page-code k busy = leaves-grants 0 _ _ (leaves-page k busy (allocate h 0) (grants-image 0 (omega arith)))

  pub file-code : code_grants 0 (file_info 1) (st r ws) ≡ does r ws for_file
  unfolding does file_page
  file-code = page-code (file 1) (file≢free 1)

  same-heads : r.next_page ≡ (region_of r h).next_page
  same-heads = ap (λ (s : State). s.reg.next_page) (is-image good)

  -- a good item, and a bad one
  module _ (i : ℕ) where
    pub slab-code : good_item i ≡ true → code_grants 0 (slab_info i) (st r ws) ≡ does r ws (for_slab i)
    unfolding does slab_page slab_grants grants
    slab-code e = page-code (slab i) (slab≢free i) ∙ go (grant_as (slab i) (allocate h 0))
      where
        go : (a : Grant) → grants r ws 0 a ≡ slab_grants r ws i a
        go refused = refl
        go (granted g c) = rw e

    pub slab-bad : good_item i ≡ false
        → if_at (lowest_from 6 0 r.next_page) (λ j. kept r ws (no 12 (i ∷ []))) (kept r ws (no 6 [])) ≡ does r ws (for_slab i)
    unfolding does slab_page grant_as slab_grants grants
    slab-bad e = go (allocate h 0) (allocated h 0)
      where
        go : (a : Grant) → Allocated h 0 a
            → if_at (lowest_from 6 0 r.next_page) (λ j. kept r ws (no 12 (i ∷ []))) (kept r ws (no 6 [])) ≡ slab_grants r ws i (grant_as (slab i) a)
        go _ (none empty) = rw (same-heads, lowest-none (fit good).fits (lent good) 6 0 (omega arith) (λ j a b. empty j a (omega arith)))
        go _ (some k p ps l is empty) =
            rw (same-heads, lowest-at (fit good).fits (lent good) 6 k 0 p ps (omega arith) (omega arith) empty is, e)
