-- The 64-bit FNV-1a hash of words, each as eight bytes, the low one first.
use Rattle.std.specs.Prelude.{ℕ, ◌*◌, ◌%◌, ◌^◌, List, bit_xor}
use Rattle.std.specs.Int.{w64, to_le_bytes}
use Rattle.std.specs.List.{fold}

abbrev pub basis : ℕ
basis = 0xcbf29ce484222325

abbrev pub prime : ℕ
prime = 0x100000001b3

-- the hash with one byte more
unfoldable pub with_byte : ℕ → ℕ → ℕ
with_byte hash b = bit_xor hash b * prime % 2 ^ 64

unfoldable pub with_word : ℕ → ℕ → ℕ
with_word hash w = fold with_byte hash (to_le_bytes w64 w)

unfoldable pub hash_of : List ℕ → ℕ
hash_of ws = fold with_word basis ws
