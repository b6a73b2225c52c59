-- Tallies of pages by order: nothing at page 0, none more over a page that is not in M, one more over a block, and no count passes the pages.
use Rattle.common.specs.Kit.{ℕ, ◌+◌, ◌≤◌, ◌<◌, ◌≡◌, refl, sym, ap, ◌∙◌, Bool, true, false, ◌&&◌, and-false, List, eqb, length, get_or, replicate, length-set, get_or-replicate, get_or-eq_default, get_or-set_same, get_or-set_other, ext_get_or, ℕ_discrete, dec_lt, arith, eq-eqb, ne_eqb}
use Rattle.common.specs.Numbers.{one, count}
use Rattle.common.proofs.Counts.{count-run}
use Rattle.common.proofs.Bounds.{count-le}
use Rattle.audit.specs.Decides.{Decides}
use Rattle.audit.specs.Check.{counts}
use Rattle.audit.specs.Counts.{one_more, Tally}
use Rattle.audit.proofs.Decisions.{decide-same, decide-as, decide_eq, decide-orders}
use lib.Pointwise.{pointwise, bytes_decides}

more-at : (l : List ℕ) (k o : ℕ) → o < length l → get_or (one_more l k) o 0 ≡ get_or l o 0 + one (eqb k o)
more-at l k o h =
    elim (ℕ_discrete k o) [
      | yes e ↦ rw (e, eq-eqb o o refl) (get_or-set_same l o _ 0 h)
      | no n ↦ rw (ne_eqb k o n) (get_or-set_other l k o _ 0 (λ e. n (sym e)) ∙ omega arith)
    ]

-- two arrays are equal
decide-equal : (xs ys : List ℕ) → Decides (pointwise eqb xs ys) (xs ≡ ys)
decide-equal xs ys = let d = bytes_decides xs ys in record { yes = d.0; back = d.1 }

pub equal-back : (xs ys : List ℕ) → pointwise eqb xs ys ≡ pointwise eqb ys xs
equal-back xs ys = decide-same (decide-equal xs ys) (decide-as sym sym (decide-equal ys xs))

-- a list that holds what n says is equal to one exactly if that holds it too
pub tally-equal : {n : ℕ → ℕ} {l : List ℕ} (ns : List ℕ) → length ns ≡ 6 → Tally n l → pointwise eqb l ns ≡ counts ns n
tally-equal {n} {l} ns h t =
    decide-same (decide-equal l ns)
    (decide-as (λ e. ext_get_or 0 l ns (t.long ∙ sym h) (λ o i. let k : o < 6 = omega (arith, t.long) in t.each o k ∙ sym (e o k)))
    (λ e o k. ap (λ x. get_or x o 0) (sym e) ∙ t.each o k) (decide-orders (λ o. decide_eq (get_or ns o 0) (n o))))

module _ (f : ℕ → ℕ) (M : ℕ → Bool) where
  -- how many of the pages of M below p have order o by f
  abbrev number : ℕ → ℕ → ℕ
  number p o = count (λ q. M q && eqb (f q) o) p

  pub tally-none : Tally (number 0) (replicate 6 0)
  unfolding count
  tally-none = record { long = refl; each = λ o h. get_or-replicate 6 o 0 0 h }

  pub tally-most : (p : ℕ) {l : List ℕ} → Tally (number p) l → (o : ℕ) → get_or l o 0 ≤ p
  tally-most p {l} t o =
      elim (dec_lt o 6) [
        | yes h ↦ omega (arith, t.each o h, count-le (λ q. M q && eqb (f q) o) p)
        | no h ↦ omega (arith, get_or-eq_default l 0 {n = o} (omega (arith, t.long)))
      ]

  -- a page, and pages with no order after it
  number-run : (p u : ℕ) {o : ℕ} → o < 6 → p < u → ((q : ℕ) → p < q → q < u → f q ≡ 6) → number u o ≡ number p o + one (M p && eqb (f p) o)
  number-run p u {o} k i none = count-run _ p u i (λ q x y. rw (ne_eqb (f q) o (λ e. omega (arith, none q x y))) (and-false (M q)))

  pub tally-over : {p : ℕ} {l : List ℕ} → M p ≡ false → Tally (number p) l → Tally (number (p + 1)) l
  tally-over {p} out t =
      record {
        long = t.long;
        each = λ o k. omega (arith, t.each o k, rw out at (number-run p (p + 1) k (omega arith) (λ q x y. absurd (omega arith))));
      }

  pub tally-run :
      {p u : ℕ} {l : List ℕ} → M p ≡ true → p < u → ((q : ℕ) → p < q → q < u → f q ≡ 6) → Tally (number p) l → Tally (number u) (one_more l (f p))
  tally-run {p} {u} {l} on i none t =
      record {
        long = length-set l (f p) _ ∙ t.long;
        each = λ o k. more-at l (f p) o (omega (arith, t.long)) ∙ omega (arith, t.each o k, rw on at (number-run p u k i none));
      }
