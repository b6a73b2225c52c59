-- Upstream packs a word by "or": the type's number, and each field masked and shifted up. Of fields that have a word that is the sum which our table
-- says (W2). A word's type comes back whatever its fields, and no next page reads as none. These are results.
use Rattle.common.specs.Kit.{ℕ, ◌+◌, ◌-◌, ◌*◌, ◌/◌, ◌%◌, ◌^◌, ◌<◌, ◌≡◌, refl, true, arith, ltb-true}
use lib.Bits.{bit_and, bit_or, and_mask, or_shifted_r}
use Rattle.common.proofs.Tests.{and-true}
use Rattle.words.specs.Word.{max_order, no_next, no_page, next_page_of, next_field, type_in, in_table, word_of}
use Rattle.words.specs.RawFields.{fields_of}
use Rattle.words.specs.declared.word.PageInfo.{PageInfo}
use Rattle.words.specs.declared.word.PageInfo.TheVariants.{Free, Allocated, Slab, Compound, File, Reserved}

-- type t with the low k bits of a field in the bits from 4 on
abbrev with_field : ℕ → ℕ → ℕ → ℕ
with_field t k x = bit_or t (bit_and x (2 ^ k - 1) * 2 ^ 4)

unfoldable pub or_word : PageInfo → ℕ
or_word (Free f) = bit_or (with_field 0 8 f.order) (next_field f.next_page * 2 ^ 12)
or_word (Allocated a) = with_field 1 8 a.order
or_word (Slab s) = with_field 2 16 s.item_size
or_word (Compound c) = with_field 3 8 c.order
or_word (File f) = bit_or 4 (f.ref_count * 2 ^ 4)
or_word (Reserved r) = 15

field-sum : (t k x : ℕ) → t < 2 ^ 4 → x % 2 ^ k ≡ x → with_field t k x ≡ x * 2 ^ 4 + t
field-sum t k x l e = rw (and_mask x k, e) (or_shifted_r x 4 t l)

pub word-or : (i : PageInfo) → in_table i ≡ true → or_word i ≡ word_of i
unfolding or_word
word-or (Free f) h =
    let o : f.order < max_order = ltb-true _ _ (and-true _ _ h).0 in
    let low : with_field 0 8 f.order ≡ f.order * 2 ^ 4 + 0 = field-sum 0 8 f.order (omega arith) (omega arith) in
    rw (low, or_shifted_r (next_field f.next_page) 12 (f.order * 2 ^ 4 + 0) (omega arith)) (omega arith)
word-or (Allocated a) h = let o : a.order < max_order = ltb-true _ _ h in field-sum 1 8 a.order (omega arith) (omega arith)
word-or (Slab s) h = let o : s.item_size < 2 ^ 16 = ltb-true _ _ h in field-sum 2 16 s.item_size (omega arith) (omega arith)
word-or (Compound c) h = let o : c.order < max_order = ltb-true _ _ h in field-sum 3 8 c.order (omega arith) (omega arith)
word-or (File f) h = or_shifted_r f.ref_count 4 4 (omega arith)
word-or (Reserved r) h = refl

-- the type's number (W1)
abbrev pub type_of : PageInfo → ℕ
type_of i = (fields_of i).kind

-- also of fields that have no word
pub type-back : (i : PageInfo) → type_in (word_of i) ≡ type_of i
type-back (Free f) = omega arith
type-back (Allocated a) = omega arith
type-back (Slab s) = omega arith
type-back (Compound c) = omega arith
type-back (File f) = omega arith
type-back (Reserved r) = omega arith

-- the field of no next page: it is what is left of no_page shifted down, shifting it up and down loses nothing, it reads as none, and none
-- is written as it
pub no-next : (no_page / 2 ^ 12 ≡ no_next) × (no_next * 2 ^ 12 / 2 ^ 12 ≡ no_next) × (next_page_of no_next ≡ no_page) × (next_field no_page ≡ no_next)
no-next = (refl, refl, refl, refl)
