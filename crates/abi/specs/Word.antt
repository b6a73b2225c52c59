-- Page words as numbers: a page's raw fields. `no_number` stands for the plain "no".
use Rattle.std.specs.Prelude.{ℕ, Option, Some, None}
use Rattle.words.specs.RawFields.{fields_of}
use Rattle.abi.specs.declared.answer.Exported.{Exported}
use Rattle.abi.specs.declared.word.Fields.{Fields}
use Rattle.words.specs.declared.word.PageInfo.{PageInfo}
use Rattle.words.specs.declared.word.PageStorageType.{PageStorageType}

-- a number of our own, next to `bad_buffer_number`
abbrev pub no_number : ℕ
no_number = 0x40000001

abbrev pub fields : ℕ → ℕ → ℕ → ℕ → Fields
fields number kind field next = record { number = number; kind = kind; field = field; next = next }

abbrev pub said_of : Option PageInfo → Fields
said_of (Some i) = fields 0 (fields_of i).kind (fields_of i).field (fields_of i).next
said_of None = fields no_number 0 0 0

abbrev pub encoded_of : Option PageStorageType → Exported
encoded_of (Some w) = record { number = 0; value = w.0; second = 0 }
encoded_of None = record { number = no_number; value = 0; second = 0 }
