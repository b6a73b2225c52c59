-- How often a page stands in a list: at least once if it is in it, and once if no page stands in it twice.
use Rattle.common.specs.Kit.{ℕ, ◌<◌, ◌≡◌, refl, sym, ◌≢◌, ⊎_elim, by_cases, List, [], ◌∷◌, Memᴰ, mem-head, mem-tail, mem-cases, mem-not_nil, eqb, ℕ_discrete, dec_lt, arith, eq-eqb, ne_eqb}
use Rattle.common.specs.Numbers.{Once, one}
use Rattle.region.specs.Pages.{occurs}

one-is : (x y : ℕ) → x ≡ y → one (eqb x y) ≡ 1
one-is x y e = rw (eq-eqb x y e)

one-not : (x y : ℕ) → x ≢ y → one (eqb x y) ≡ 0
one-not x y e = rw (ne_eqb x y e)

-- a page that stands in a list
pub mem-occurs : (p : ℕ) (l : List ℕ) → Memᴰ p l → 0 < occurs p l
mem-occurs p [] m = absurd (mem-not_nil m)
mem-occurs p (x ∷ l) m = ⊎_elim
    (λ e. omega (arith, one-is x p (sym e)))
    (λ k. omega (arith, mem-occurs p l k))
    (mem-cases m)

pub occurs-mem : (p : ℕ) (l : List ℕ) → 0 < occurs p l → Memᴰ p l
occurs-mem p [] i = absurd (omega arith)
occurs-mem p (x ∷ l) i = by_cases (ℕ_discrete x p)
    (λ e. mem-head (sym e))
    (λ e. mem-tail (occurs-mem p l (omega (arith, one-not x p e))))

pub occurs-once : (l : List ℕ) → ((p : ℕ) → Memᴰ p l → occurs p l ≡ 1) → Once l
occurs-once [] f = tt
occurs-once (x ∷ l) f = (
  λ m. omega (arith, f x (mem-head refl), one-is x x refl, mem-occurs x l m),
  occurs-once l (λ p m. omega (arith, f p (mem-tail m), mem-occurs p l m)),
)

pub once-occurs : (p : ℕ) (l : List ℕ) → Once l → Memᴰ p l → occurs p l ≡ 1
once-occurs p [] u m = absurd (mem-not_nil m)
once-occurs p (x ∷ l) u m = by_cases (ℕ_discrete x p)
    (λ e. by_cases (dec_lt 0 (occurs p l))
    (λ i. absurd (u.0 (rw e (occurs-mem p l i))))
    (λ i. omega (arith, one-is x p e)))
    (λ e. ⊎_elim
    (λ d. absurd (e (sym d)))
    (λ k. omega (arith, one-not x p e, once-occurs p l u.1 k))
    (mem-cases m))
