-- Counts of the numbers that pass a test: equal tests, tests that differ at one number or at two, a test that none passes or one alone,
-- a test in two parts, a test that the numbers of a list pass, one that implies another, and a run of numbers of which at most the first passes.
use Rattle.common.specs.Kit.{ℕ, zero, suc, ◌+◌, ◌≤◌, ◌<◌, ◌≡◌, refl, sym, ◌∙◌, ◌≢◌, ◌↔◌, ⊎_elim, by_cases, Bool, true, false, false≢true, List, [], ◌∷◌, Memᴰ, mem-head, mem-tail, mem-cases, mem-not_nil, T, length, ℕ_discrete, arith}
use Rattle.common.specs.Numbers.{update, Once, one, count}
use Rattle.common.proofs.Tests.{by-test}
use Rattle.common.proofs.Lists.{update_same, update_other}

pub count_same : (f g : ℕ → Bool) (n : ℕ) → ((p : ℕ) → p < n → f p ≡ g p) → count f n ≡ count g n
unfolding count
count_same f g zero e = refl
count_same f g (suc n) e = rw (e n (omega arith), count_same f g n (λ p l. e p (omega arith)))

pub no-count : (f : ℕ → Bool) (n : ℕ) → ((p : ℕ) → f p ≡ false) → count f n ≡ 0
unfolding count
no-count f zero e = refl
no-count f (suc n) e = rw (no-count f n e, e n)

-- two tests that agree but at s
pub count_at : (f g : ℕ → Bool) (s n : ℕ) → s < n → ((p : ℕ) → p ≢ s → f p ≡ g p) → count f n + one (g s) ≡ count g n + one (f s)
unfolding count
count_at f g s zero l e = absurd (omega arith)
count_at f g s (suc n) l e = by_cases (ℕ_discrete s n)
    (λ k. rw k (omega (arith, count_same f g n (λ p m. e p (omega arith)))))
    (λ k. rw (e n (omega arith)) (omega (arith, count_at f g s n (omega arith) e)))

pub count-one : (f : ℕ → Bool) (s n : ℕ) → s < n → f s ≡ true → ((p : ℕ) → p ≢ s → f p ≡ false) → count f n ≡ 1
count-one f s n l here e = omega (arith, no-count (λ _. false) n (λ _. refl), rw here at (count_at f (λ _. false) s n l e))

-- two tests that agree but at s and t
pub count-two : (f g : ℕ → Bool) (s t n : ℕ) → s < n → t < n → s ≢ t → ((p : ℕ) → p ≢ s → p ≢ t → f p ≡ g p)
    → count f n + one (g s) + one (g t) ≡ count g n + one (f s) + one (f t)
count-two f g s t n ls lt ne e = omega (
  arith,
  rw at-t at (count_at f mid t n lt (λ p k. sym (update_other f t (g t) p k))),
  rw at-s at (count_at mid g s n ls to),
)
  where
    mid : ℕ → Bool
    mid = update f t (g t)

    at-t : mid t ≡ g t
    at-t = update_same f t (g t) t refl

    at-s : mid s ≡ f s
    at-s = update_other f t (g t) s ne

    to : (p : ℕ) → p ≢ s → mid p ≡ g p
    to p k = by_cases (ℕ_discrete p t) (λ h. rw h at-t) (λ h. update_other f t (g t) p h ∙ e p k h)

-- a test that holds where one of two others does, and these never both
pub count-parts : (f g h : ℕ → Bool) (n : ℕ) → ((p : ℕ) → one (f p) ≡ one (g p) + one (h p)) → count f n ≡ count g n + count h n
unfolding count
count-parts f g h zero e = refl
count-parts f g h (suc n) e = omega (arith, e n, count-parts f g h n e)

-- a test that the numbers of a list pass, and no others: each stands in it once
pub count-list : (l : List ℕ) (f : ℕ → Bool) (n : ℕ) → Once l → ((p : ℕ) → Memᴰ p l → p < n) → ((p : ℕ) → Memᴰ p l ↔ (f p ≡ true))
    → count f n ≡ length l
count-list [] f n u low is = no-count f n (λ p. by-test (f p) (λ e. absurd (mem-not_nil ((is p).1 e))) (λ e. e))
count-list (x ∷ l) f n u low is = omega (
  arith,
  rw ((is x).0 (mem-head refl), update_same f x false x refl) at
      (count_at f (update f x false) x n (low x (mem-head refl)) (λ p k. sym (update_other f x false p k))),
  count-list l (update f x false) n u.1 (λ p m. low p (mem-tail m)) (λ p. (
    λ m. update_other f x false p (λ e. u.0 (rw e at m)) ∙ (is p).0 (mem-tail m),
    λ t. by_cases (ℕ_discrete p x)
        (λ e. absurd (false≢true (sym (update_same f x false p e) ∙ t)))
        (λ e. ⊎_elim (λ k. absurd (e k)) (λ k. k) (mem-cases ((is p).1 (sym (update_other f x false p e) ∙ t)))),
  )),
)

-- a test that implies another
one-le : (a b : Bool) → (T a → T b) → one a ≤ one b
one-le false b to = omega arith
one-le true true to = omega arith
one-le true false to = absurd (to tt)

count-mono : (f g : ℕ → Bool) (n : ℕ) → ((p : ℕ) → T (f p) → T (g p)) → count f n ≤ count g n
unfolding count
count-mono f g zero to = omega arith
count-mono f g (suc n) to = omega (arith, one-le (f n) (g n) (to n), count-mono f g n to)

-- and that no fewer numbers pass
pub count-tight : (f g : ℕ → Bool) (n : ℕ) → ((p : ℕ) → T (f p) → T (g p)) → count f n ≡ count g n → (p : ℕ) → p < n → T (g p) → T (f p)
count-tight f g n to e p l t = by-test (f p) (λ y. rw y tt) (λ y. absurd (omega (
  arith,
  rw (y, update_same f p true p refl) at (count_at (update f p true) f p n l (update_other f p true)),
  count-mono (update f p true) g n (λ q u. by_cases (ℕ_discrete q p) (λ k. rw k t) (λ k. to q (rw (update_other f p true q k) at u))),
)))

-- from p up to u at most p passes
pub count-run : (f : ℕ → Bool) (p u : ℕ) → p < u → ((q : ℕ) → p < q → q < u → f q ≡ false) → count f u ≡ count f p + one (f p)
unfolding count
count-run f p zero l none = absurd (omega arith)
count-run f p (suc u) l none = by_cases (ℕ_discrete p u)
    (λ e. rw e)
    (λ e. rw (none u (omega arith) (omega arith)) (omega (arith, count-run f p u (omega arith) (λ q x y. none q x (omega arith)))))
