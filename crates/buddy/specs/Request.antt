-- A request to the heap, as data. Its number is an order, an item size or a place; the place is a page here, and an address at the public calls.
use Rattle.std.specs.Prelude.{ℕ}

-- what is asked for at a place
pub data Use : Type 0 where
  to_free to_get to_put : Use

-- a request for a block of an order, for a file page, for a slab page of an item size, or for something at a place
pub data Request : Type 0 where
  for_block : ℕ → Request
  for_file : Request
  for_slab : ℕ → Request
  on : Use → ℕ → Request

-- the same request at another place
abbrev pub moved : ℕ → Request → Request
moved p (for_block o) = for_block o
moved p for_file = for_file
moved p (for_slab i) = for_slab i
moved p (on u a) = on u p

-- the order that a request for memory asks for
pub data Asks : Request → ℕ → Type 0 where
  asks-block : {o : ℕ} → Asks (for_block o) o
  asks-file : Asks for_file 0
  asks-slab : {i : ℕ} → Asks (for_slab i) 0
