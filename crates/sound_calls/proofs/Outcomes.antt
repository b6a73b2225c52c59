-- Every promise on sound input goes one of the ways: what the words tell is what the heap is, and every rule leaves a sound heap that fits.
use Rattle.common.specs.Kit.{ℕ, ◌+◌, ◌-◌, ◌≤◌, ◌<◌, ◌≡◌, refl, ◌≢◌, Bool, true, false, cond, true≢false, List, [], ◌∷◌, ltb, arith, ltb-true, ltb-false, Option, Some, None}
use Rattle.common.proofs.Tests.{by-test, T_true}
use Rattle.words.specs.declared.place.PageAt.TheVariants.{Start}
use Rattle.buddy.specs.Runs.{first}
use Rattle.buddy.specs.Heap.{Kind, free, slab, file, good_item, Heap, Fits}
use Rattle.buddy.specs.Steps.{label}
use Rattle.buddy.specs.Rules.{Grant, refused, granted, allocate, free_page, grant_as, file_page, slab_page, recount, put_to}
use Rattle.buddy.specs.Request.{Use, to_free, to_get, to_put, Request, for_block, for_file, for_slab, on, asks-block, asks-file, asks-slab}
use Rattle.buddy.specs.History.{done, page, counted, on_file, call}
use Rattle.buddy.specs.History as Model
use Rattle.buddy.proofs.Refill.{never}
use Rattle.buddy.proofs.Grant.{hand-out}
use Rattle.buddy.proofs.Pages.{slab≢free, file≢free}
use Rattle.buddy.proofs.Calls.{give-out, put-file}
use Rattle.pages.specs.Info.{file_info}
use Rattle.pages.specs.Said.{said}
use Rattle.pages.specs.Meaning.{if_file}
use Rattle.pages.proofs.Patterns.{by-file}
use Rattle.region.specs.State.{if_at}
use Rattle.refine.specs.Image.{heap_of}
use Rattle.region.specs.declared.HeapMemoryRegion.{HeapMemoryRegion}
use Rattle.refine.specs.Fit.{Holds, SoundFit}
use Rattle.region.specs.Layout.{managed}
use Rattle.refine.proofs.Label.{label-fit}
use Rattle.refine.proofs.Grant.{Granted, Grants}
use Rattle.sound_calls.specs.Answer.{ok, no}
use Rattle.sound_calls.specs.Promise.{kept, became, max_count, grants, slab_grants, does_at, does}
use Rattle.sound_calls.specs.Code.{freeable}
use Rattle.sound_calls.proofs.SoundInput.{SoundInput}
use Rattle.sound_calls.proofs.Places.{place, start-in, by_place}
use Rattle.sound_calls.proofs.Heads.{may_free_lem, freeable-out, out-freeable, said-file, file-said}
use Rattle.sound_calls.proofs.GrantLaws.{grants-image}
use Rattle.sound_calls.proofs.FreeLaws.{out-frees}
use Rattle.sound_calls.proofs.FileLaws.{count_fits, recounts, file-puts}
use Rattle.sound_calls.proofs.Requests.{order, memory, address, boot, type, no-file, full, item, tells-done, tells-page, tells-count, Way, refuse, succeed}

module _ {r : HeapMemoryRegion} {ws : List ℕ} (good : SoundInput r ws) where
  block_way : (o : ℕ) → o ≤ 5 → (a : Grant) → allocate (heap_of r ws) o ≡ a → Grants (managed r ws) r (heap_of r ws) o a → Way r ws (for_block o) (grants r ws o a)
  unfolding grants call Model.grants
  block_way o l refused e d = refuse (memory asks-block l e)
  block_way o l (granted g c) e d = succeed 0 g (page (first o c)) tt (rw e) tells-page d.fit

  allocate-way : (o : ℕ) → Way r ws (for_block o) (does r ws (for_block o))
  unfolding does
  allocate-way o = by-test (ltb o 6)
      (λ t.
      let l : o < 6 = ltb-true o 6 t in
      rw t (block_way o (omega arith) (allocate (heap_of r ws) o) refl (grants-image good o l)))
      (λ t. rw t (refuse (order (ltb-false o 6 t))))

  -- a page of kind k is granted
  labelled : (k : Kind) → Fits k 0 → k ≢ free → Holds k → {g : Heap} {c : ℕ} → Granted (managed r ws) r (heap_of r ws) 0 g c
      → SoundFit (managed r ws) r (label g 0 c k)
  labelled k fits busy holds d = label-fit d.fit (hand-out d.hand) k fits busy holds

  file-way : (a : Grant) → allocate (heap_of r ws) 0 ≡ a → Grants (managed r ws) r (heap_of r ws) 0 a → Way r ws for_file (grants r ws 0 (grant_as (file 1) a))
  unfolding grants grant_as call Model.grants file_page
  file-way refused e d = refuse (memory asks-file (omega arith) e)
  file-way (granted g c) e d = succeed 0 (label g 0 c (file 1)) (page (first 0 c)) tt (rw e) tells-page
      (labelled (file 1) (refl, omega arith) (file≢free 1) (omega arith) d)

  slab-way : (i : ℕ) (a : Grant) → allocate (heap_of r ws) 0 ≡ a → Grants (managed r ws) r (heap_of r ws) 0 a
      → Way r ws (for_slab i) (slab_grants r ws i (grant_as (slab i) a))
  unfolding grants slab_grants grant_as call Model.grants slab_page
  slab-way i refused e d = refuse (memory asks-slab (omega arith) e)
  slab-way i (granted g c) e d = by-test (good_item i)
      (λ t. rw t (succeed 0 (label g 0 c (slab i)) (page (first 0 c)) tt (rw (t, e)) tells-page
      (labelled (slab i) (refl, t) (slab≢free i) tt d)))
      (λ t. rw t (refuse (item g c e t)))

  -- the calls at an address that starts page p
  module _ (a p : ℕ) (is : place r a ≡ Start (record { 0 = p })) where
    page-in : p < r.page_count
    page-in = start-in r a (record { 0 = p }) is

    free-way : (f : Option ℕ) → freeable (said ws p) ≡ f → r.allocated ≤ p
        → Way r ws (on to_free a) (cond (if_at f (λ o. true) false) (became r (free_page (managed r ws) (heap_of r ws) p) (ok [])) (kept r ws (no 9 (a ∷ []))))
    free-way (Some o) e l =
        let out = freeable-out good.sound p o l page-in e in
        succeed p _ done is (give-out (heap_of r ws) out) tells-done (out-frees good out).fit
    free-way None e l = refuse (type p is (λ o out. never (cc (out-freeable good.sound p o out))))

    other_way : (u : Use) → u ≢ to_free → ((A : Type 0) (f : ℕ → A) (x : A) → if_file (said ws p) f x ≡ x)
        → Way r ws (on u a) (kept r ws (no 10 (a ∷ [])))
    other_way u n other = refuse (no-file p n is (λ n f. true≢false (rw (file-said good.sound p n f) at (other Bool (λ _. true) false))))

    get-way : (n : ℕ) → said ws p ≡ Some (file_info n)
        → Way r ws (on to_get a) (cond (ltb n max_count) (became r (recount (heap_of r ws) p (n + 1)) (ok ((n + 1) ∷ []))) (kept r ws (no 11 (a ∷ []))))
    unfolding call on_file
    get-way n e =
        let f = said-file good.sound p n page-in e in
        by-test (ltb n max_count)
        (λ t.
        let l : n < max_count = ltb-true n max_count t in
        rw t (succeed p (recount (heap_of r ws) p (n + 1)) (counted (n + 1)) is (rw (T_true (managed r ws p) f.managed, f.is)) tells-count
        (recounts good f (n + 1) (omega arith) (omega arith)).fit))
        (λ t.
        let e : n ≡ max_count = omega (arith, ltb-false n max_count t, count_fits good f) in
        rw t (refuse (full p is (rw e at f))))

    put-way : (n : ℕ) → said ws p ≡ Some (file_info n)
        → Way r ws (on to_put a) (became r (put_to (managed r ws) (heap_of r ws) p (n - 1)) (ok ((n - 1) ∷ [])))
    put-way n e =
        let f = said-file good.sound p n page-in e in
        succeed p _ (counted (n - 1)) is (put-file (heap_of r ws) f) tells-count (file-puts good f).fit

  -- THE WAYS
  pub outcomes : (x : Request) → Way r ws x (does r ws x)
  unfolding does does_at file_page slab_page
  outcomes (for_block o) = allocate-way o
  outcomes for_file = file-way (allocate (heap_of r ws) 0) refl (grants-image good 0 (omega arith))
  outcomes (for_slab i) = slab-way i (allocate (heap_of r ws) 0) refl (grants-image good 0 (omega arith))
  outcomes (on to_free a) = by_place r ws a _ (Way r ws (on to_free a))
      (λ p is. by-test (ltb p.0 r.allocated)
      (λ t. rw t (refuse (boot p.0 is (ltb-true p.0 r.allocated t))))
      (λ t. rw (t, may_free_lem (said ws p.0)) (free-way a p.0 is (freeable (said ws p.0)) refl (ltb-false p.0 r.allocated t))))
      (λ off. refuse (address off))
  outcomes (on to_get a) = by_place r ws a _ (Way r ws (on to_get a))
      (λ p is. by-file (said ws p.0) (λ n e. rw e (get-way a p.0 is n e)) (λ other. simp other (other_way a p.0 is to_get (λ x. never (cc)) other)))
      (λ off. refuse (address off))
  outcomes (on to_put a) = by_place r ws a _ (Way r ws (on to_put a))
      (λ p is. by-file (said ws p.0) (λ n e. rw e (put-way a p.0 is n e)) (λ other. simp other (other_way a p.0 is to_put (λ x. never (cc)) other)))
      (λ off. refuse (address off))
