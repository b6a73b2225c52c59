-- From sound input every call leaves sound output, of the code's types; from unsound input nothing changes, and the call says so; a refusal
-- changes nothing. These are results.
use Rattle.common.specs.Kit.{ℕ, ◌≡◌, refl, ◌≢◌, List}
use Rattle.common.proofs.Tests.{by-test}
use Rattle.words.specs.declared.place.VirtAddr.{VirtAddr}
use Rattle.buddy.specs.Request.{Request}
use Rattle.region.specs.Sound.{Sound}
use Rattle.region.specs.declared.HeapMemoryRegion.{HeapMemoryRegion}
use Rattle.refine.proofs.Step.{Lent}
use Rattle.refine.proofs.Inverse.{write-typed}
use Rattle.refine.proofs.Fresh.{fresh, fresh-fit, fresh-sound}
use Rattle.region.specs.Layout.{managed, bare}
use Rattle.audit.specs.Check.{sound_b}
use Rattle.audit.proofs.Sound.{sound-decides}
use Rattle.sound_calls.specs.Promise.{kept, does}
use Rattle.sound_calls.proofs.SoundInput.{SoundInput}
use Rattle.sound_calls.proofs.Refused.{refuses, either_stays, does_stays}
use Rattle.sound_calls.proofs.Keeps.{keeps}
use Rattle.heap.specs.Promise.{empty_region, set_up_promise, damaged, promise}
use Rattle.heap.proofs.SetUps.{set-up-results}

module _ (r : HeapMemoryRegion) (ws : List ℕ) where
  -- of what is sound the promise is what the request does
  pub sound-promise : Sound r ws → (x : Request) → promise r ws x ≡ does r ws x
  unfolding promise
  sound-promise s x = rw ((sound-decides r ws).back s)

  pub sound-kept : SoundInput r ws → (x : Request) → SoundInput (promise r ws x).region (promise r ws x).words
  sound-kept good x = rw (sound-promise good.sound x) (keeps good x)

  pub damaged-kept : (Sound r ws → ⊥) → (x : Request) → promise r ws x ≡ kept r ws (damaged r ws)
  unfolding promise
  damaged-kept n x = by-test (sound_b r ws) (λ t. absurd (n ((sound-decides r ws).yes t))) (λ t. rw t)

  -- whatever came in: a call that tells a number other than 0 leaves record and words as they came
  pub refused-kept : (x : Request) → (promise r ws x).answer.number ≢ 0 → promise r ws x ≡ kept r ws (promise r ws x).answer
  unfolding promise
  refused-kept x = (either_stays r ws (sound_b r ws) (does_stays r ws x) (refuses r ws _)).same

module _ (start : VirtAddr) (n a : ℕ) (ws : List ℕ) where
  -- a set-up that succeeds leaves sound output, and one that is refused the empty record and every word
  pub set-up-sound : (set_up_promise start n a ws).answer.number ≡ 0 → SoundInput (set_up_promise start n a ws).region (set_up_promise start n a ws).words
  set-up-sound = set-up-results start n a ws (λ x. x.answer.number ≡ 0 → SoundInput x.region x.words)
      (λ l _.
      let r = bare start n a in
      let lent : Lent r = rw l.long at l in
      record { typed = write-typed (managed r ws) r (fresh r) lent (fresh-fit r ws).fits; sound = fresh-sound r lent })
      (λ k some e. absurd (some e))

  pub set-up-refuses : (set_up_promise start n a ws).answer.number ≢ 0
      → set_up_promise start n a ws ≡ kept empty_region ws (set_up_promise start n a ws).answer
  set-up-refuses = set-up-results start n a ws (λ x. x.answer.number ≢ 0 → x ≡ kept empty_region ws x.answer) (λ l e. absurd (e refl)) (λ k some e. refl)
