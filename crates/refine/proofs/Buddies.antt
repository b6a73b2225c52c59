-- Runs by the numbers of their pages: the buddy of a page, as S11 has it, is the first page of the buddy of its run, a head is a multiple of its
-- size, and the pages of a run are those from its first page on.
use Rattle.common.specs.Kit.{ℕ, ◌+◌, ◌-◌, ◌*◌, ◌%◌, ◌^◌, ◌≤◌, ◌<◌, ◌≡◌, sym, ◌∙◌, by_cases, pow_pos, ℕ_discrete, arith, eq-eqb, ne_eqb}
use native.Mathlib.Nat.{add_comm, mul-mod_left}
use lib.Pow.{shl-shr, mod-pow-add, split}
use Rattle.buddy.specs.Runs.{cell, first, Head, buddy}
use Rattle.buddy.proofs.RunLaws.{cell-first, start-le, lt-end, cell-between}
use Rattle.region.specs.Pages.{buddy_of}

-- the part of a run's first page below twice its size
run-rest : (o c : ℕ) → first o c % 2 ^ (o + 1) ≡ c % 2 * 2 ^ o
unfolding first
run-rest o c = rw (add_comm o 1) (mod-pow-add (c * 2 ^ o) 1 o ∙ rw (shl-shr c o, mul-mod_left c (2 ^ o)) (omega arith))

first_next : (o c : ℕ) → first o (c + 1) ≡ first o c + 2 ^ o
unfolding first
first_next o c = omega arith

pub buddy-page : (o c : ℕ) → buddy_of o (first o c) ≡ first o (buddy c)
unfolding buddy_of buddy
buddy-page o c = by_cases (ℕ_discrete (c % 2) 0)
    (λ e. rw (run-rest o c, e, eq-eqb (0 * 2 ^ o) 0 (omega arith)) (sym (first_next o c)))
    (λ e.
    let one : c % 2 ≡ 1 = omega arith in
    let back : c - 1 + 1 ≡ c = omega arith in
    rw (run-rest o c, ne_eqb (c % 2) 0 e, one, ne_eqb (1 * 2 ^ o) 0 (omega (arith, pow_pos o)))
    (omega (arith, rw back at (first_next o (c - 1)))))

-- heads by division
pub head-mod : (o p : ℕ) → p % 2 ^ o ≡ 0 → Head o p
unfolding first cell
head-mod o p e = omega (arith, split p o)

pub mod-head : (o p : ℕ) → Head o p → p % 2 ^ o ≡ 0
unfolding first cell
mod-head o p h = omega (arith, split p o)

-- the pages of run c of order o, by their numbers
module _ (o c q : ℕ) where
  pub run_at : cell o q ≡ c → (first o c ≤ q) × (q < first o c + 2 ^ o)
  run_at e = rw (← e) (start-le o q, lt-end o q)

  pub run_in : first o c ≤ q → q < first o c + 2 ^ o → cell o q ≡ c
  run_in a b = let is = cell-first o c in rw is at (cell-between o (first o c) q (rw is a) (rw is b))
