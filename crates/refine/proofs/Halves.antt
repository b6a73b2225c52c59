-- The two halves of a run by their first pages: where they begin, and that the lower of a run and its buddy begins the run one order up.
use Rattle.common.specs.Kit.{ℕ, zero, suc, ◌+◌, ◌*◌, ◌/◌, ◌%◌, ◌^◌, ◌≤◌, ◌<◌, ◌≡◌, sym, ap, ◌∙◌, ◌≢◌, by_cases, pow_pos, ℕ_discrete, arith, le-leb, lt-leb}
use native.Mathlib.Nat.{zero-mul, zero-mod}
use Rattle.buddy.specs.Runs.{first, buddy}
use Rattle.buddy.proofs.RunLaws.{first-suc, buddy-even, buddy-odd}
use Rattle.region.specs.Pages.{buddy_of}
use Rattle.region.specs.State.{lower}
use Rattle.refine.proofs.Buddies.{buddy-page}

pub high-page : (o c : ℕ) → first (suc o) c + 2 ^ o ≡ first o (c * 2 + 1)
unfolding first
high-page o c = ap (λ x. x + 2 ^ o) (first-suc o c) ∙ omega arith

-- a run that is not the first one begins no lower than its size
pub first_above : (o c m : ℕ) → first o c % m ≢ 0 → 2 ^ o ≤ first o c
unfolding first
first_above o zero m n = absurd (n (rw (zero-mul (2 ^ o)) (zero-mod m)))
first_above o (suc c) m n = omega arith

lower-even : (o d : ℕ) → lower (first o (d * 2)) (first o (buddy (d * 2))) ≡ first (suc o) d
lower-even o d =
    rw (buddy-even d, le-leb (first o (d * 2)) (first o (d * 2 + 1)) (omega (arith, first-suc o d, high-page o d))) (sym (first-suc o d))

lower-odd : (o d : ℕ) → lower (first o (d * 2 + 1)) (first o (buddy (d * 2 + 1))) ≡ first (suc o) d
lower-odd o d =
    let l : first o (d * 2) < first o (d * 2 + 1) = omega (arith, first-suc o d, high-page o d, pow_pos o) in
    rw (buddy-odd d, lt-leb _ _ l) (sym (first-suc o d))

pub lower-page : (o c : ℕ) → lower (first o c) (buddy_of o (first o c)) ≡ first (suc o) (c / 2)
lower-page o c = rw (buddy-page o c) (by_cases (ℕ_discrete (c % 2) 0)
    (λ e. let back : c / 2 * 2 ≡ c = omega arith in rw back at (lower-even o (c / 2)))
    (λ e. let back : c / 2 * 2 + 1 ≡ c = omega arith in rw back at (lower-odd o (c / 2))))
