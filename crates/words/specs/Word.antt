-- The word of a page: rules W1 to W8 of docs/RULES.md, the table of types row by row.
use Rattle.std.specs.Prelude.{ℕ, ◌+◌, ◌-◌, ◌*◌, ◌/◌, ◌%◌, ◌^◌, Bool, true, cond, ◌&&◌, ◌||◌, eqb, ltb, Option, Some, None, Result, Ok, Err}
use Rattle.words.specs.declared.word.PageType.{PageType}
use Rattle.words.specs.declared.word.UnknownType.{UnknownType}
use Rattle.words.specs.declared.word.PageInfo.{PageInfo}
use Rattle.words.specs.declared.word.PageInfo.TheVariants.{Free, Allocated, Slab, Compound, File, Reserved}
use Rattle.words.specs.declared.word.PageStorageType.{PageStorageType}

-- "An order is 0 to 5" (W3)
abbrev pub max_order : ℕ
max_order = 6

-- 52 ones in a next field are none, which is written 2^64 - 1 outside the words; any other field is that page (W5)
abbrev pub no_next : ℕ
no_next = 2 ^ 52 - 1

abbrev pub no_page : ℕ
no_page = 2 ^ 64 - 1

abbrev pub next_page_of : ℕ → ℕ
next_page_of field = cond (eqb field no_next) no_page field

abbrev pub next_field : ℕ → ℕ
next_field p = cond (eqb p no_page) no_next p

-- a next field can name page p
abbrev pub has_field : ℕ → Bool
has_field p = eqb p no_page || ltb p no_next

-- the parts of a word: bits 0 to 3, all above them, bits 4 to 11, all above those, bits 4 to 19, all above those
abbrev pub type_in : ℕ → ℕ
type_in w = w % 2 ^ 4

abbrev pub rest_in : ℕ → ℕ
rest_in w = w / 2 ^ 4

abbrev pub order_in : ℕ → ℕ
order_in w = rest_in w % 2 ^ 8

abbrev pub above_order : ℕ → ℕ
above_order w = rest_in w / 2 ^ 8

abbrev pub item_in : ℕ → ℕ
item_in w = rest_in w % 2 ^ 16

abbrev pub above_item : ℕ → ℕ
above_item w = rest_in w / 2 ^ 16

-- the type that a number is (W1)
unfoldable pub type_of : ℕ → Result PageType UnknownType
type_of n =
    cond (eqb n 0) (Ok PageType.Free)
    (cond (eqb n 1) (Ok PageType.Allocated)
    (cond (eqb n 2) (Ok PageType.Slab)
    (cond (eqb n 3) (Ok PageType.Compound)
    (cond (eqb n 4) (Ok PageType.File)
    (cond (eqb n 15) (Ok PageType.Reserved)
    (Err (record { 0 = n })))))))

-- a row of the table: what the word says, if its order is an order and its spare bits are zero, looked at in this order (W4, W6)
unfoldable pub row : PageInfo → ℕ → ℕ → Option PageInfo
row i order spare = cond (ltb order max_order) (cond (eqb spare 0) (Some i) None) None

-- what a word says: the rows by type, each with its order and its spare bits, 0 where it has none (W1, W2, W6)
unfoldable pub decode_of : ℕ → Option PageInfo
decode_of w =
    cond (eqb (type_in w) 0) (row (Free (record { next_page = next_page_of (above_order w); order = order_in w })) (order_in w) 0)
    (cond (eqb (type_in w) 1) (row (Allocated (record { order = order_in w })) (order_in w) (above_order w))
    (cond (eqb (type_in w) 2) (row (Slab (record { item_size = item_in w })) 0 (above_item w))
    (cond (eqb (type_in w) 3) (row (Compound (record { order = order_in w })) (order_in w) (above_order w))
    (cond (eqb (type_in w) 4) (row (File (record { ref_count = rest_in w })) 0 0)
    (cond (eqb (type_in w) 15) (row (Reserved (record {})) 0 (rest_in w))
    None)))))

-- some word has these fields
abbrev pub in_table : PageInfo → Bool
in_table (Free f) = ltb f.order max_order && has_field f.next_page
in_table (Allocated a) = ltb a.order max_order
in_table (Slab s) = ltb s.item_size (2 ^ 16)
in_table (Compound c) = ltb c.order max_order
in_table (File f) = ltb f.ref_count (2 ^ 60)
in_table (Reserved r) = true

-- the word of fields that have one
abbrev pub word_of : PageInfo → ℕ
word_of (Free f) = next_field f.next_page * 2 ^ 12 + f.order * 2 ^ 4
word_of (Allocated a) = a.order * 2 ^ 4 + 1
word_of (Slab s) = s.item_size * 2 ^ 4 + 2
word_of (Compound c) = c.order * 2 ^ 4 + 3
word_of (File f) = f.ref_count * 2 ^ 4 + 4
word_of (Reserved r) = 15

-- "Encode takes raw fields and says no exactly when no word has them" (W7)
unfoldable pub encode_of : PageInfo → Option PageStorageType
encode_of i = cond (in_table i) (Some (record { 0 = word_of i })) None

-- the word for callers whose fields have one; of others a Reserved page's
unfoldable pub mem_of : PageInfo → ℕ
mem_of i = cond (in_table i) (word_of i) 15
