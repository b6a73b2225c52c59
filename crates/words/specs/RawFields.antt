-- A page's raw fields as numbers (W7): the type's number (W1), then order, item size or count, then the next page.
use Rattle.std.specs.Prelude.{ℕ, cond, ◌&&◌, eqb, Option, None}
use Rattle.words.specs.Word.{encode_of}
use Rattle.words.specs.declared.word.PageInfo.{PageInfo}
use Rattle.words.specs.declared.word.PageInfo.TheVariants.{Free, Allocated, Slab, Compound, File, Reserved}
use Rattle.words.specs.declared.raw.Fields.{Fields}
use Rattle.words.specs.declared.word.PageStorageType.{PageStorageType}

-- the fields of a page; 0 where its type has no such field
abbrev pub fields : ℕ → ℕ → ℕ → Fields
fields kind field next = record { kind = kind; field = field; next = next }

abbrev pub fields_of : PageInfo → Fields
fields_of (Free i) = fields 0 i.order i.next_page
fields_of (Allocated i) = fields 1 i.order 0
fields_of (Slab i) = fields 2 i.item_size 0
fields_of (Compound i) = fields 3 i.order 0
fields_of (File i) = fields 4 i.ref_count 0
fields_of (Reserved i) = fields 15 0 0

-- the word of such fields: one that the type does not have must be 0
unfoldable pub encode_fields : ℕ → ℕ → ℕ → Option PageStorageType
encode_fields kind field next =
    cond (eqb kind 0) (encode_of (Free (record { next_page = next; order = field })))
    (cond (eqb next 0)
    (cond (eqb kind 1) (encode_of (Allocated (record { order = field })))
    (cond (eqb kind 2) (encode_of (Slab (record { item_size = field })))
    (cond (eqb kind 3) (encode_of (Compound (record { order = field })))
    (cond (eqb kind 4) (encode_of (File (record { ref_count = field })))
    (cond (eqb kind 15 && eqb field 0) (encode_of (Reserved (record {}))) None)))))
    None)
