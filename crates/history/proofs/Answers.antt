-- What the public calls answer on sound record and words: when a request wants memory, and what a free, a get and a put answer at the address
-- of a block out and of a file page.
use Rattle.common.specs.Kit.{ℕ, ◌+◌, ◌-◌, ◌*◌, ◌≤◌, ◌<◌, ◌≡◌, refl, ap, ◌≢◌, ◌↔◌, List, [], ◌∷◌, T, arith, lt-ltb, le-ltb, by_cases, dec_le}
use Rattle.common.proofs.Tests.{by-test}
use Rattle.words.proofs.PlaceLaws.{page-of}
use Rattle.buddy.specs.Heap.{slab, file, good_item, Heap}
use Rattle.buddy.specs.Request.{Request, for_block, for_file, for_slab, on, to_free, to_get, to_put, Asks, asks-block, asks-file, asks-slab}
use Rattle.buddy.specs.Rules.{Grant, refused, granted, allocate, grant_as, file_page, slab_page}
use Rattle.buddy.proofs.Refill.{never}
use Rattle.buddy.proofs.Pages.{OutHead, FilePage}
use Rattle.pages.specs.Said.{said}
use Rattle.region.specs.Layout.{managed}
use Rattle.refine.specs.Image.{heap_of}
use Rattle.region.specs.declared.HeapMemoryRegion.{HeapMemoryRegion}
use Rattle.refine.proofs.Managed.{managed-below, boot-not-managed}
use Rattle.sound_calls.specs.Answer.{ok, no, Effect}
use Rattle.sound_calls.specs.declared.Answer.{Answer}
use Rattle.sound_calls.specs.Promise.{max_count, grants, slab_grants, at_page, on_page, does_at, does}
use Rattle.sound_calls.proofs.SoundInput.{SoundInput}
use Rattle.sound_calls.proofs.Heads.{may_free_lem, out-freeable, file-said}
use Rattle.heap.specs.Promise.{promise}
use Rattle.history.specs.Calls.{Call, called}
use Rattle.history.proofs.Follows.{address_in, Follows, stays, moves, does-promised, call-follows}

-- a request that is refused for want of memory when the model's rule refuses it
wants : (f : Grant → Answer) → f refused ≡ no 6 [] → ((g : Heap) (c : ℕ) → (f (granted g c)).number ≢ 6)
    → (a : Grant) → (f a ≡ no 6 []) ↔ (a ≡ refused)
wants f none some refused = (λ _. refl, λ _. none)
wants f none some (granted g c) = (λ e. absurd (some g c (ap (λ (t : Answer). t.number) e)), λ e. never (cc))

module _ {r : HeapMemoryRegion} {ws : List ℕ} (good : SoundInput r ws) where
  abbrev h : Heap
  h = heap_of r ws

  wants-block : (o : ℕ) → o ≤ 5 → ((promise r ws (for_block o)).answer ≡ no 6 []) ↔ (allocate h o ≡ refused)
  unfolding does grants
  wants-block o l = rw (does-promised good (for_block o), lt-ltb o 6 (omega arith))
      (wants (λ a. (grants r ws o a).answer) refl (λ g c. omega arith) (allocate h o))

  wants-file : ((promise r ws for_file).answer ≡ no 6 []) ↔ (allocate h 0 ≡ refused)
  unfolding does file_page grant_as grants
  wants-file = rw (does-promised good for_file)
      (wants (λ a. (grants r ws 0 (grant_as (file 1) a)).answer) refl (λ g c. omega arith) (allocate h 0))

  wants-slab : (i : ℕ) → ((promise r ws (for_slab i)).answer ≡ no 6 []) ↔ (allocate h 0 ≡ refused)
  unfolding does slab_page slab_grants grant_as grants
  wants-slab i = rw (does-promised good (for_slab i))
      (wants (λ a. (slab_grants r ws i (grant_as (slab i) a)).answer) refl
      (λ g c. by-test (good_item i) (λ e. rw e (omega arith)) (λ e. rw e (omega arith))) (allocate h 0))

  -- a request for memory is refused for want of it exactly when the model's rule finds none
  pub wants-memory : {x : Request} {o : ℕ} → Asks x o → o ≤ 5 → ((promise r ws x).answer ≡ no 6 []) ↔ (allocate h o ≡ refused)
  wants-memory {o = o} asks-block l = wants-block o l
  wants-memory asks-file l = wants-file
  wants-memory (asks-slab {i}) l = wants-slab i

  pub none-damaged : (c : Call) → (called r ws c).answer.number ≢ 4
  none-damaged c = go (called r ws c) (call-follows good c)
    where
      go : (x : Effect) → Follows r ws c x → x.answer.number ≢ 4
      go _ (stays t n _) = n
      go _ (moves t _ _ n _ _ _) = n

  -- a managed page is found by its address
  on-address : {p : ℕ} → T (managed r ws p) → (f : ℕ → Effect) → on_page r ws (address_in r p) f ≡ f p
  unfolding at_page
  on-address {p} m f =
      let s = r.start_virt.0 in
      let e : s + 4096 * p ≡ s + p * 4096 = omega arith in
      rw (e, page-of s r.page_count p (omega (arith, managed-below r ws p m)))

  pub free-told : {o p : ℕ} → OutHead (managed r ws) h.at o p → (promise r ws (on to_free (address_in r p))).answer ≡ ok []
  unfolding does does_at
  free-told {o} {p} out =
      let past : r.allocated ≤ p = by_cases (dec_le r.allocated p) (λ l. l) (λ l. absurd (boot-not-managed r ws p (omega arith) out.managed)) in
      rw (
        does-promised good (on to_free (address_in r p)),
        on-address out.managed _,
        le-ltb p r.allocated past,
        may_free_lem (said ws p),
        out-freeable good.sound p o out,
      )

  module _ {p n : ℕ} (f : FilePage (managed r ws) h.at p n) where
    pub get-told : n < max_count → (promise r ws (on to_get (address_in r p))).answer ≡ ok ((n + 1) ∷ [])
    unfolding does does_at
    get-told l =
        rw (does-promised good (on to_get (address_in r p)), on-address f.managed _, file-said good.sound p n f, lt-ltb n (max_count) l)

    pub full-told : max_count ≤ n → (promise r ws (on to_get (address_in r p))).answer ≡ no 11 (address_in r p ∷ [])
    unfolding does does_at
    full-told l =
        rw (does-promised good (on to_get (address_in r p)), on-address f.managed _, file-said good.sound p n f, le-ltb n (max_count) l)

    pub put-told : (promise r ws (on to_put (address_in r p))).answer ≡ ok ((n - 1) ∷ [])
    unfolding does does_at
    put-told = rw (does-promised good (on to_put (address_in r p)), on-address f.managed _, file-said good.sound p n f)
