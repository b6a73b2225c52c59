-- Aligned runs of pages. "A block of order o has 2^o pages and starts at a multiple of 2^o" (S9): a block lies on a run.
-- The runs of order o are numbered from 0, so a run is named by its order and its number.
use Rattle.std.specs.Prelude.{ℕ, ◌+◌, ◌-◌, ◌*◌, ◌/◌, ◌%◌, ◌^◌, ◌≡◌, cond, eqb}

-- the number of the run of order o that holds page p
unfoldable pub cell : ℕ → ℕ → ℕ
cell o p = p / 2 ^ o

-- the first page of the run of order o numbered c
unfoldable pub first : ℕ → ℕ → ℕ
first o c = c * 2 ^ o

-- the first page of the run of order o that holds page p
abbrev pub start : ℕ → ℕ → ℕ
start o p = first o (cell o p)

-- page p is the first of its run: it is a multiple of 2^o
abbrev pub Head : ℕ → ℕ → Type 0
Head o p = start o p ≡ p

-- the number of the buddy of run c: runs 2k and 2k + 1 are the halves of run k, one order up
unfoldable pub buddy : ℕ → ℕ
buddy c = cond (eqb (c % 2) 0) (c + 1) (c - 1)
