-- The customer's cases of words and orders (W1 to W9) that are to be proved, and the edges of `get_order`, in one table.
use Rattle.std.specs.Prelude.{ℕ, List, [], ◌∷◌, Option, Some, None}
use Rattle.words.specs.Word.{decode_of, encode_of, no_page}
use Rattle.words.specs.Order.{order_of}
use Rattle.words.specs.declared.word.PageInfo.{PageInfo}
use Rattle.words.specs.declared.word.PageInfo.TheVariants.{Free, Allocated, Slab, Compound, File, Reserved}
use Rattle.words.specs.declared.word.PageStorageType.{PageStorageType}

-- an input with the answer that the customer gives
pub data Case : Type 0 where
  decodes : ℕ → Option PageInfo → Case
  encodes : PageInfo → Option PageStorageType → Case
  sizes : ℕ → ℕ → Case

-- the input with the answer of the definitions
abbrev pub found : Case → Case
found (decodes w d) = decodes w (decode_of w)
found (encodes i e) = encodes i (encode_of i)
found (sizes s o) = sizes s (order_of s)

abbrev is : ℕ → Option PageStorageType
is w = Some (record { 0 = w })

abbrev reserved : PageInfo
reserved = Reserved (record {})

abbrev free : ℕ → ℕ → PageInfo
free o n = Free (record { next_page = n; order = o })

unfoldable pub table : List Case
table =
    decodes 0xFFFFFFFFFFFFF020 (Some (free 2 no_page))
    ∷ decodes 0x3000 (Some (free 0 3))
    ∷ decodes 0x11 (Some (Allocated (record { order = 1 })))
    ∷ decodes 0x53 (Some (Compound (record { order = 5 })))
    ∷ decodes 0x402 (Some (Slab (record { item_size = 64 })))
    ∷ decodes 0x14 (Some (File (record { ref_count = 1 })))
    ∷ decodes 0xF (Some reserved)
    ∷ decodes 0x62 (Some (Slab (record { item_size = 6 })))
    ∷ decodes 0x63 None
    ∷ encodes (free 2 no_page) (is 0xFFFFFFFFFFFFF020)
    ∷ encodes (free 0 3) (is 0x3000)
    ∷ encodes (Allocated (record { order = 1 })) (is 0x11)
    ∷ encodes (Compound (record { order = 5 })) (is 0x53)
    ∷ encodes (Slab (record { item_size = 64 })) (is 0x402)
    ∷ encodes (File (record { ref_count = 1 })) (is 0x14)
    ∷ encodes reserved (is 0xF)
    ∷ sizes 4096 0
    ∷ sizes 4097 1
    ∷ sizes 131072 5
    ∷ sizes 131073 6
    ∷ sizes 0 0
    ∷ sizes 0x8000_0000_0000_0000 51
    ∷ sizes 0x8000_0000_0000_0001 52
    ∷ sizes 0xFFFF_FFFF_FFFF_FFFF 52
    ∷ []
