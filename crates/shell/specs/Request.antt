-- What each request does to the record and the lent words, and what it answers (README.md, "The shell"): a request for a call of the heap does
-- what the heap promises of that call, and its answer is the call's, as a line. How an answer is written as text is not said here.
use Rattle.std.specs.Prelude.{ℕ, Bool, cond, List, [], ◌∷◌, eqb, leb, ltb, length, get_or, set, Option, Some, None}
use Rattle.words.specs.Word.{decode_of}
use Rattle.words.specs.Order.{order_of}
use Rattle.region.specs.declared.HeapMemoryRegion.{HeapMemoryRegion}
use Rattle.buddy.specs.Request.{for_block, for_file, for_slab, on, to_free, to_get, to_put}
use Rattle.sound_calls.specs.Answer.{Effect}
use Rattle.words.specs.RawFields.{encode_fields}
use Rattle.heap.specs.Promise.{empty_region, set_up_promise, promise, lookup_promise, audit_promise}
use Rattle.parse.specs.declared.request.Field.{Field}
use Rattle.parse.specs.declared.request.Request.{Request}
use Rattle.text.specs.Line.{line}
use Rattle.text.specs.declared.answer.Line.{Line}
use Rattle.text.specs.declared.answer.Word.{Word}
use Rattle.text.specs.declared.answer.Value.{Value}
use Rattle.answers.specs.Lines.{line_of, decoded_line, encoded_line}
use Rattle.answers.specs.declared.texts.TextKind.{TextKind}
use Rattle.shell.specs.declared.steps.Reply.{Reply}
use Rattle.region.specs.declared.After.{After}

-- what a request leaves, and the reply
pub record Did : Type 0 where
  pub region : HeapMemoryRegion
  pub words : List ℕ
  pub reply : Reply

abbrev pub did : HeapMemoryRegion → List ℕ → Reply → Did
did r ws x = record { region = r; words = ws; reply = x }

-- the reply is a line; and the same of the code
abbrev pub says : HeapMemoryRegion → List ℕ → Line → Did
says r ws l = did r ws (Reply.Line l)

abbrev pub step : HeapMemoryRegion → Line → After Reply
step r l = record { region = r; answer = Reply.Line l }

-- a call of the heap
abbrev pub calls : Effect → Did
calls x = says x.region x.words (line_of x.answer)

-- `field NAME I VALUE` writes one number of the record: that of order I, or one that stands alone, where I is 0
abbrev pub has_field : Field → ℕ → Bool
has_field Field.Nr i = ltb i 6
has_field Field.Free i = ltb i 6
has_field Field.Head i = ltb i 6
has_field Field.Start i = eqb i 0
has_field Field.Pages i = eqb i 0
has_field Field.Boot i = eqb i 0

abbrev pub with_field : HeapMemoryRegion → Field → ℕ → ℕ → HeapMemoryRegion
with_field r Field.Nr i v = record r { nr_pages = set r.nr_pages i v }
with_field r Field.Free i v = record r { free_pages = set r.free_pages i v }
with_field r Field.Head i v = record r { next_page = set r.next_page i v }
with_field r Field.Start i v = record r { start_virt = record { 0 = v } }
with_field r Field.Pages i v = record r { page_count = v }
with_field r Field.Boot i v = record r { allocated = v }

-- a lent word, or `out` beyond the last
abbrev pub read : List ℕ → ℕ → Line
read ws i = line (cond (ltb i (length ws)) (Word.Hex (get_or ws i 0)) Word.Out) []

-- the request is done, and leaves this
abbrev pub ok : HeapMemoryRegion → List ℕ → Did
ok r ws = says r ws (line Word.Ok [])

module _ (r : HeapMemoryRegion) (ws : List ℕ) where
  -- no request
  abbrev pub bad : Did
  bad = says r ws (line Word.Bad [])

  -- `words N` lends up to 8,192 words, and makes the record the empty one
  abbrev pub lends : ℕ → Did
  lends n = cond (leb n 8192) (did empty_region ws (Reply.Lent n)) bad

  -- `poke I HEX` overwrites a lent word
  abbrev pub poked : ℕ → ℕ → Did
  poked i w = cond (ltb i (length ws)) (ok r (set ws i w)) (says r ws (line Word.Out []))

  -- `field NAME I VALUE`
  abbrev pub written : Field → ℕ → ℕ → Did
  written f i v = cond (has_field f i) (ok (with_field r f i v) ws) bad

  -- what a line's request does
  unfoldable pub acted : Option Request → Did
  acted None = bad
  acted (Some (Request.Words n)) = lends n
  acted (Some (Request.Setup start pages boot)) = calls (set_up_promise start pages boot ws)
  acted (Some (Request.Alloc order)) = calls (promise r ws (for_block order))
  acted (Some Request.File) = calls (promise r ws for_file)
  acted (Some (Request.Slab size)) = calls (promise r ws (for_slab size))
  acted (Some (Request.Free a)) = calls (promise r ws (on to_free a.0))
  acted (Some (Request.Get a)) = calls (promise r ws (on to_get a.0))
  acted (Some (Request.Put a)) = calls (promise r ws (on to_put a.0))
  acted (Some (Request.Lookup a)) = says r ws (line_of (lookup_promise r ws a.0))
  acted (Some Request.Report) = did r ws (Reply.Text TextKind.Report)
  acted (Some Request.Audit) = says r ws (line_of (audit_promise r ws))
  acted (Some Request.Print) = did r ws (Reply.Text TextKind.Print)
  acted (Some Request.Lists) = did r ws (Reply.Text TextKind.Lists)
  acted (Some Request.State) = did r ws (Reply.Text TextKind.State)
  acted (Some (Request.Word i)) = says r ws (read ws i)
  acted (Some (Request.Poke i w)) = poked i w
  acted (Some (Request.Field f i v)) = written f i v
  acted (Some (Request.Encode kind field next)) = says r ws (encoded_line (encode_fields kind field next))
  acted (Some (Request.Decode w)) = says r ws (decoded_line (decode_of w))
  acted (Some (Request.Order size)) = says r ws (line Word.Ok (Value.Number (order_of size) ∷ []))
  acted (Some Request.Help) = did r ws (Reply.Text TextKind.Help)
