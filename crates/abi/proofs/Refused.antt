-- A call that answers a number other than 0 leaves its buffers as they came: the record's numbers and the words, and of a report its numbers.
-- Only a refused set-up writes: the empty record. These are results.
use Rattle.common.specs.Kit.{ℕ, ◌≡◌, refl, ap, ◌∙◌, ◌≢◌, ◌&&◌, List, eqb, length, eqb-true, eqb-false, ne_eqb}
use Rattle.common.proofs.Tests.{by-test}
use Rattle.buddy.specs.Request.{Request}
use Rattle.sound_calls.specs.Answer.{Effect}
use Rattle.heap.specs.Promise.{empty_region, report_promise}
use Rattle.heap.proofs.Sound.{refused-kept, set-up-refuses}
use Rattle.abi.specs.Record.{packed, unpacked}
use Rattle.abi.specs.Promise.{set_up_left, call_left, report_left}
use Rattle.abi.proofs.Packed.{packed-unpacked}

pub refused-left : (xs ws : List ℕ) (x : Request) → (call_left xs ws x).answer.number ≢ 0
    → ((call_left xs ws x).numbers ≡ xs) × ((call_left xs ws x).words ≡ ws)
refused-left xs ws x = by-test (eqb (length xs) 21)
    (λ t. rw t (λ n.
    let same = refused-kept (unpacked xs) ws x n in
    (ap (λ (y : Effect). packed y.region) same ∙ packed-unpacked xs (eqb-true _ _ t), ap (λ (y : Effect). y.words) same)))
    (λ t. rw t (λ _. (refl, refl)))

-- set-up: on a record of 21 numbers it leaves the empty one
pub refused-set-up : (xs ws : List ℕ) (start n a : ℕ) → (set_up_left xs ws start n a).answer.number ≢ 0
    → (length xs ≡ 21 → (set_up_left xs ws start n a).numbers ≡ packed empty_region) × (length xs ≢ 21 → (set_up_left xs ws start n a).numbers ≡ xs)
    × ((set_up_left xs ws start n a).words ≡ ws)
refused-set-up xs ws start n a = by-test (eqb (length xs) 21)
    (λ t. rw t (λ k.
    let same = set-up-refuses (record { 0 = start }) n a ws k in
    (λ _. ap (λ (y : Effect). packed y.region) same, λ other. absurd (other (eqb-true _ _ t)), ap (λ (y : Effect). y.words) same)))
    (λ t. rw t (λ _. (λ is. absurd (eqb-false _ _ t is), λ _. refl, refl)))

-- the report's twelve numbers
pub refused-report : (xs ws ns : List ℕ) → (report_left xs ws ns).answer.number ≢ 0 → (report_left xs ws ns).report ≡ ns
refused-report xs ws ns = by-test (eqb (length xs) 21 && eqb (length ns) 12)
    (λ t. rw t (λ k. rw (ne_eqb (report_promise (unpacked xs) ws).answer.number 0 k)))
    (λ t. rw t (λ _. refl))
