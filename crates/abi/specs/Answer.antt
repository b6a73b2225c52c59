-- An answer as C programs get it: its number, 0 for none, and the values that it carries, zeros where it carries less than two.
use Rattle.std.specs.Prelude.{ℕ, [], unwrap_or}
use Rattle.sound_calls.specs.Answer.{no}
use Rattle.sound_calls.specs.declared.Answer.{Answer}
use Rattle.abi.specs.declared.answer.Exported.{Exported}

abbrev pub answer_of : Answer → Exported
answer_of t = record { number = t.number; value = unwrap_or t.value 0; second = unwrap_or t.second 0 }

-- a buffer of the wrong length: a number of our own, out of the way of the customer's
abbrev pub bad_buffer_number : ℕ
bad_buffer_number = 0x40000000

abbrev pub bad_buffer : Exported
bad_buffer = answer_of (no bad_buffer_number [])
