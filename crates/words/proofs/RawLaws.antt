-- The raw fields of a page are those that the encoder takes: a page and its fields have one word, or none.
use Rattle.common.specs.Kit.{◌≡◌, refl}
use Rattle.words.specs.Word.{encode_of}
use Rattle.words.specs.RawFields.{fields_of, encode_fields}
use Rattle.words.specs.declared.word.PageInfo.{PageInfo}
use Rattle.words.specs.declared.word.PageInfo.TheVariants.{Free, Allocated, Slab, Compound, File, Reserved}

pub fields-encode : (i : PageInfo) → encode_fields (fields_of i).kind (fields_of i).field (fields_of i).next ≡ encode_of i
unfolding encode_fields
fields-encode (Free i) = refl
fields-encode (Allocated i) = refl
fields-encode (Slab i) = refl
fields-encode (Compound i) = refl
fields-encode (File i) = refl
fields-encode (Reserved i) = refl
