-- A refusal changes nothing: a promise that tells a number other than 0 leaves record and words as they came, sound or not. By the promises'
-- definitions. This is a result.
use Rattle.common.specs.Kit.{ℕ, ◌≡◌, refl, ◌≢◌, Bool, true, false, cond, List, ltb, Option}
use Rattle.words.specs.declared.place.PageAt.{PageAt}
use Rattle.words.specs.declared.place.PageAt.TheVariants.{Start, Within}
use Rattle.buddy.specs.Request.{Request, for_block, for_file, for_slab, on, to_free, to_get, to_put}
use Rattle.buddy.specs.Rules.{Grant, refused, granted}
use Rattle.pages.specs.Said.{said}
use Rattle.pages.specs.Meaning.{if_file}
use Rattle.pages.proofs.Patterns.{by-file}
use Rattle.buddy.specs.Heap.{good_item}
use Rattle.region.specs.declared.HeapMemoryRegion.{HeapMemoryRegion}
use Rattle.sound_calls.specs.Answer.{Effect}
use Rattle.sound_calls.specs.declared.Answer.{Answer}
use Rattle.sound_calls.specs.Promise.{kept, may_free, max_count, grants, slab_grants, at_page, does_at, does}
use Rattle.words.specs.declared.word.PageInfo.{PageInfo}

module _ (r : HeapMemoryRegion) (ws : List ℕ) where
  -- if it is a refusal, nothing changed
  pub record Stays (x : Effect) : Type 0 where
    pub same : x.answer.number ≢ 0 → x ≡ kept r ws x.answer

  pub refuses : (t : Answer) → Stays (kept r ws t)
  refuses t = record { same = λ _. refl }

  succeeds : {x : Effect} → x.answer.number ≡ 0 → Stays x
  succeeds e = record { same = λ n. absurd (n e) }

  -- one of two answers
  pub either_stays : (b : Bool) {x y : Effect} → Stays x → Stays y → Stays (cond b x y)
  either_stays true s t = s
  either_stays false s t = t

  grants-stay : (o : ℕ) (g : Grant) → Stays (grants r ws o g)
  unfolding grants
  grants-stay o refused = refuses _
  grants-stay o (granted h c) = succeeds refl

  slab-stays : (i : ℕ) (g : Grant) → Stays (slab_grants r ws i g)
  unfolding slab_grants
  slab-stays i refused = grants-stay 0 refused
  slab-stays i (granted h c) = either_stays (good_item i) (grants-stay 0 (granted h c)) (refuses _)

  place-stays : (a : ℕ) (x : PageAt) {f : ℕ → Effect} → ((p : ℕ) → Stays (f p)) → Stays (at_page r ws a x f)
  unfolding at_page
  place-stays a (Start p) s = s p.0
  place-stays a (Within p) s = refuses _
  place-stays a PageAt.Outside s = refuses _

  file-stays : (d : Option PageInfo) {f : ℕ → Effect} {y : Effect} → ((n : ℕ) → Stays (f n)) → Stays y → Stays (if_file d f y)
  file-stays d s t = by-file d (λ n e. rw e (s n)) (λ other. simp other t)

  pub does_stays : (x : Request) → Stays (does r ws x)
  unfolding does does_at
  does_stays (for_block o) = either_stays (ltb o 6) (grants-stay o _) (refuses _)
  does_stays for_file = grants-stay 0 _
  does_stays (for_slab i) = slab-stays i _
  does_stays (on to_free a) = place-stays a _ (λ p.
      either_stays (ltb p r.allocated) (refuses _) (either_stays (may_free (said ws p)) (succeeds refl) (refuses _)))
  does_stays (on to_get a) = place-stays a _ (λ p.
      file-stays (said ws p) (λ n. either_stays (ltb n max_count) (succeeds refl) (refuses _)) (refuses _))
  does_stays (on to_put a) = place-stays a _ (λ p. file-stays (said ws p) (λ n. succeeds refl) (refuses _))
