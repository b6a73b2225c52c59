-- The order of a size in bytes (W9).
use Rattle.std.specs.Prelude.{ℕ, zero, suc, ◌+◌, ◌*◌, ◌^◌, ◌≤◌, ◌<◌, cond, leb}

-- the bytes of a block of order o
abbrev pub block_bytes : ℕ → ℕ
block_bytes o = 4096 * 2 ^ o

-- "least order whose block holds it" (W9)
pub record LeastOrder (size o : ℕ) : Type 0 where
  pub holds : size ≤ block_bytes o
  pub least : (k : ℕ) → k < o → block_bytes k < size

-- the first of the n orders from o on whose block holds the size, or the order after them
unfoldable pub order_from : ℕ → ℕ → ℕ → ℕ
order_from zero o size = o
order_from (suc n) o size = cond (leb size (block_bytes o)) o (order_from n (o + 1) size)

-- orders 0 to 52: a block of order 52 holds every size below 2^64
abbrev pub order_of : ℕ → ℕ
order_of size = order_from 52 0 size
