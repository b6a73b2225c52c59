-- An answer of one line: a word, and up to three values.
use Rattle.std.specs.Prelude.{List, [], ◌∷◌, slice_get}
use Rattle.text.specs.declared.answer.Word.{Word}
use Rattle.text.specs.declared.answer.Value.{Value}
use Rattle.text.specs.declared.answer.Line.{Line}

abbrev pub line : Word → List Value → Line
line word vs = record {
  word = word;
  values = slice_get vs 0 ∷ slice_get vs 1 ∷ slice_get vs 2 ∷ [];
}
