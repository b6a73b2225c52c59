-- Answers as lines (README.md, "The shell"): `ok` or `no`, and what an answer of the heap carries; and what a word says.
use Rattle.std.specs.Prelude.{ℕ, cond, [], ◌∷◌, eqb, Option, Some, None, option_map}
use Rattle.words.specs.Word.{no_page}
use Rattle.words.specs.declared.word.PageInfo.{PageInfo}
use Rattle.words.specs.declared.word.PageInfo.TheVariants as Page
use Rattle.words.specs.declared.word.PageStorageType.{PageStorageType}
use Rattle.sound_calls.specs.declared.Answer.{Answer}
use Rattle.text.specs.Line.{line}
use Rattle.text.specs.declared.answer.Line.{Line}
use Rattle.text.specs.declared.answer.Word.{Word}
use Rattle.text.specs.declared.answer.Value.{Value}

-- a value that an answer carries, if it does
abbrev pub carried : Option ℕ → Option Value
carried = option_map Value.Number

-- `ok` and what the answer carries, or `no`, the refusal's number and what it carries
unfoldable pub line_of : Answer → Line
line_of t = cond (eqb t.number 0)
    (record { word = Word.Ok; values = carried t.value ∷ carried t.second ∷ None ∷ [] })
    (record { word = Word.No; values = Some (Value.Number t.number) ∷ carried t.value ∷ carried t.second ∷ [] })

-- a page, `-` for none
abbrev pub page_value : ℕ → Value
page_value p = cond (eqb p no_page) Value.NoPage (Value.Number p)

abbrev pub page_line : PageInfo → Line
page_line (Page.Free i) = line Word.Free (Value.Number i.order ∷ page_value i.next_page ∷ [])
page_line (Page.Allocated i) = line Word.Allocated (Value.Number i.order ∷ [])
page_line (Page.Slab i) = line Word.Slab (Value.Number i.item_size ∷ [])
page_line (Page.Compound i) = line Word.Compound (Value.Number i.order ∷ [])
page_line (Page.File i) = line Word.File (Value.Number i.ref_count ∷ [])
page_line (Page.Reserved i) = line Word.Reserved []

abbrev pub decoded_line : Option PageInfo → Line
decoded_line (Some i) = page_line i
decoded_line None = line Word.No []

abbrev pub encoded_line : Option PageStorageType → Line
encoded_line (Some w) = line Word.Ok (Value.Hex w.0 ∷ [])
encoded_line None = line Word.No []
