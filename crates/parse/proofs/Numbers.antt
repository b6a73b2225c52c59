-- A number that is too big stays so, whatever digits follow.
use Rattle.common.specs.Kit.{ℕ, suc, ◌+◌, ◌*◌, ◌^◌, ◌≤◌, ◌<◌, ◌≡◌, refl, List, [], ◌∷◌, length, get_or, drop, drop-cons, arith, le-ltb}
use native.Mathlib.Nat.{le-mul_of_pos_right}
use Rattle.std.specs.Prelude.{Option, Some, None, option_and_then}
use Rattle.parse.specs.Line.{below, digit_of, value_from}

-- what the digits that are left say, after n
abbrev pub number_from : ℕ → ℕ → List ℕ → Option ℕ
number_from base n w = below (2 ^ 64) (value_from base n w)

after_any : (f : ℕ → Option ℕ) (o : Option ℕ) → ((d : ℕ) → below (2 ^ 64) (f d) ≡ None) → below (2 ^ 64) (option_and_then f o) ≡ None
after_any f None big = refl
after_any f (Some d) big = big d

stays_big : (base : ℕ) → 1 ≤ base → (n : ℕ) (w : List ℕ) → 2 ^ 64 ≤ n → number_from base n w ≡ None
stays_big base one n [] big = rw (le-ltb n (2 ^ 64) big)
stays_big base one n (b ∷ bs) big =
    after_any _ (digit_of base b) (λ d. stays_big base one (n * base + d) bs (omega (arith, le-mul_of_pos_right n one)))

-- with the next digit d, and with any
module _ (base n i : ℕ) (w : List ℕ) (inside : i < length w) (one : 1 ≤ base) where
  pub sum_big : (d : ℕ) → digit_of base (get_or w i 0) ≡ Some d → 2 ^ 64 ≤ n * base + d → number_from base n (drop i w) ≡ None
  sum_big d e big = rw (drop-cons w i 0, e) (stays_big base one (n * base + d) (drop (suc i) w) big)

  pub product_big : 2 ^ 64 ≤ n * base → number_from base n (drop i w) ≡ None
  product_big big =
      rw (drop-cons w i 0) (after_any _ (digit_of base (get_or w i 0)) (λ d. stays_big base one (n * base + d) (drop (suc i) w) (omega arith)))
