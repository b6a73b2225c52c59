-- How long a list of numbers below a bound can be if none stands in it twice, and how many numbers below a bound can pass a test.
use Rattle.common.specs.Kit.{ℕ, zero, suc, ◌≤◌, ◌<◌, ◌≡◌, refl, ◌≢◌, ⊎_elim, by_cases, Bool, List, [], ◌∷◌, Memᴰ, mem-head, mem-cases, mem-not_nil, length, ℕ_discrete, arith}
use Rattle.common.specs.Numbers.{remove, Once, count}
use Rattle.common.proofs.Tests.{by-test}
use Rattle.common.proofs.Lists.{remove-same, remove-other, mem-of-remove, not-removed, once-remove}

module _ (p : ℕ) where
  pub length-remove : (l : List ℕ) → Memᴰ p l → length l ≡ suc (length (remove p l))
  length-remove [] m = absurd (mem-not_nil m)
  length-remove (x ∷ l) m = by_cases (ℕ_discrete x p)
      (λ e. rw (remove-same p x l e))
      (λ e. rw (remove-other p x l e) (⊎_elim (λ y. absurd (omega arith)) (λ y. omega (arith, length-remove l y)) (mem-cases m)))

  remove-le : (l : List ℕ) → length l ≤ suc (length (remove p l))
  unfolding remove
  remove-le [] = omega arith
  remove-le (x ∷ l) = by_cases (ℕ_discrete x p)
      (λ e. rw (remove-same p x l e) (omega arith))
      (λ e. rw (remove-other p x l e) (omega (arith, remove-le l)))

pub once-length : (n : ℕ) (l : List ℕ) → Once l → ((p : ℕ) → Memᴰ p l → p < n) → length l ≤ n
once-length zero [] u below = omega arith
once-length zero (x ∷ l) u below = absurd (omega (arith, below x (mem-head refl)))
once-length (suc n) l u below = omega (
  arith,
  remove-le n l,
  once-length n (remove n l) (once-remove n l u) (λ p m.
      let ne : p ≢ n = λ e. not-removed n l u (rw e at m) in
      omega (arith, below p (mem-of-remove n p l m))),
)

pub count-le : (f : ℕ → Bool) (n : ℕ) → count f n ≤ n
unfolding count
count-le f zero = omega arith
count-le f (suc n) = by-test (f n) (λ e. rw e (omega (arith, count-le f n))) (λ e. rw e (omega (arith, count-le f n)))
