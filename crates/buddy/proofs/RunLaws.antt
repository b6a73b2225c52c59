-- Laws of aligned runs and of buddies. All powers of two of the theory are in this file: above it a run is its order and its number.
use Rattle.common.specs.Kit.{ℕ, suc, ◌+◌, ◌-◌, ◌*◌, ◌/◌, ◌%◌, ◌^◌, ◌≤◌, ◌<◌, ◌≡◌, sym, ap, ◌∙◌, ◌≢◌, by_cases, pow_pos, pow-suc, ℕ_discrete, arith, eq-eqb, ne_eqb}
use native.Mathlib.Nat.{div-one, div-div-eq-div-mul, pow-succ', mul_assoc, mod-lt, div-mul-le_self}
use native.Mathlib.Decide.{le_ind}
use lib.Pow.{shl-shr, high, split}
use Rattle.buddy.specs.Runs.{cell, first, start, Head, buddy}

pub cell-zero : (p : ℕ) → cell 0 p ≡ p
unfolding cell
cell-zero p = div-one p

pub cell-suc : (o p : ℕ) → cell (suc o) p ≡ cell o p / 2
unfolding cell
cell-suc o p = ap (λ (m : ℕ). p / m) (pow-suc 2 o) ∙ sym (div-div-eq-div-mul p (2 ^ o) 2)

-- pages of one run are in one run of every higher order
pub cell-coarse : (i j p q : ℕ) → i ≤ j → cell i p ≡ cell i q → cell j p ≡ cell j q
cell-coarse i j p q l e = le_ind (λ k. cell k p ≡ cell k q) e (λ k _ h. cell-suc k p ∙ ap (λ (x : ℕ). x / 2) h ∙ sym (cell-suc k q)) j l

pub cell-first : (o c : ℕ) → cell o (first o c) ≡ c
unfolding cell first
cell-first o c = shl-shr c o

pub first-inj : (o a b : ℕ) → first o a ≡ first o b → a ≡ b
first-inj o a b e = sym (cell-first o a) ∙ ap (cell o) e ∙ cell-first o b

pub first-suc : (o c : ℕ) → first (suc o) c ≡ first o (c * 2)
unfolding first
first-suc o c = rw (pow-succ' 2 o) (sym (mul_assoc c 2 (2 ^ o)))

-- the run c of order o + 1 is the runs 2c and 2c + 1 of order o
pub cell-low : (o c q : ℕ) → cell o q ≡ c * 2 → cell (suc o) q ≡ c
cell-low o c q e = omega (arith, cell-suc o q)

pub cell-high : (o c q : ℕ) → cell o q ≡ c * 2 + 1 → cell (suc o) q ≡ c
cell-high o c q e = omega (arith, cell-suc o q)

pub cell_halves : (o c q : ℕ) → cell (suc o) q ≡ c → cell o q ≢ c * 2 → cell o q ≡ c * 2 + 1
cell_halves o c q e n = omega (arith, cell-suc o q)

pub cell-start : (o p : ℕ) → cell o (start o p) ≡ cell o p
cell-start o p = cell-first o (cell o p)

-- a run's bounds
pub start-le : (o p : ℕ) → start o p ≤ p
unfolding first cell
start-le o p = div-mul-le_self p (2 ^ o)

pub lt-end : (o p : ℕ) → p < start o p + 2 ^ o
unfolding first cell
lt-end o p = omega (arith, split p o, mod-lt p (pow_pos o))

-- page k of the run c
pub cell_at : (o c k : ℕ) → k < 2 ^ o → cell o (first o c + k) ≡ c
unfolding cell first
cell_at o c k l = high c o l

pub cell-between : (o p q : ℕ) → start o p ≤ q → q < start o p + 2 ^ o → cell o q ≡ cell o p
cell-between o p q a b =
    let back : start o p + (q - start o p) ≡ q = omega arith in
    rw back at (cell_at o (cell o p) (q - start o p) (omega arith))

-- a run whose pages all lie below n ends there
pub run_ends : (o c n : ℕ) → ((q : ℕ) → cell o q ≡ c → q < n) → first o c + 2 ^ o ≤ n
run_ends o c n below =
    let size = pow_pos o in
    omega (arith, below (first o c + (2 ^ o - 1)) (cell_at o c (2 ^ o - 1) (omega arith)))

pub head_first : (o c : ℕ) → Head o (first o c)
head_first o c = ap (first o) (cell-first o c)

pub head-start : (o p : ℕ) → Head o (start o p)
head-start o p = head_first o (cell o p)

pub head-is : (o c q : ℕ) → Head o q → cell o q ≡ c → q ≡ first o c
head-is o c q h e = sym h ∙ ap (first o) e

-- two heads of one run are one page
pub head-unique : (o p q : ℕ) → Head o p → Head o q → cell o p ≡ cell o q → p ≡ q
head-unique o p q h k e = head-is o (cell o q) p h e ∙ k

-- the buddy is the other run of the two that make a run one order up
module _ (c : ℕ) where
  buddy-up : c % 2 ≡ 0 → buddy c ≡ c + 1
  unfolding buddy
  buddy-up e = rw (eq-eqb (c % 2) 0 e)

  buddy-down : c % 2 ≢ 0 → buddy c ≡ c - 1
  unfolding buddy
  buddy-down e = rw (ne_eqb (c % 2) 0 e)

  pub buddy-half : buddy c / 2 ≡ c / 2
  buddy-half = by_cases (ℕ_discrete (c % 2) 0) (λ e. omega (arith, buddy-up e)) (λ e. omega (arith, buddy-down e))

  pub buddy-not : buddy c ≢ c
  buddy-not = by_cases (ℕ_discrete (c % 2) 0) (λ e. omega (arith, buddy-up e)) (λ e. omega (arith, buddy-down e))

pub buddy-is : (o c q : ℕ) → cell (suc o) q ≡ c / 2 → cell o q ≢ c → cell o q ≡ buddy c
buddy-is o c q e n = omega (arith, cell-suc o q, buddy-half c, buddy-not c)

pub buddy-even : (c : ℕ) → buddy (c * 2) ≡ c * 2 + 1
buddy-even c = omega (arith, buddy-half (c * 2), buddy-not (c * 2))

pub buddy-odd : (c : ℕ) → buddy (c * 2 + 1) ≡ c * 2
buddy-odd c = omega (arith, buddy-half (c * 2 + 1), buddy-not (c * 2 + 1))
