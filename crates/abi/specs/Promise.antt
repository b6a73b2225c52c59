-- What each exported call promises, for all input: its answer and every number of its buffers. A record of 21 numbers is a region's, and the call
-- does what the heap promises of that region; a buffer of another length is refused, and nothing changes.
use Rattle.std.specs.Prelude.{ℕ, cond, ◌&&◌, List, [], ◌++◌, eqb, length}
use Rattle.region.specs.declared.HeapMemoryRegion.{HeapMemoryRegion}
use Rattle.buddy.specs.Request.{Request}
use Rattle.sound_calls.specs.Answer.{ok, effect_of, Effect}
use Rattle.sound_calls.specs.declared.Answer.{Answer}
use Rattle.heap.specs.Promise.{empty_region, set_up_promise, promise, lookup_promise, audit_promise, report_promise}
use Rattle.abi.specs.Answer.{answer_of, bad_buffer}
use Rattle.abi.specs.Record.{packed, unpacked}
use Rattle.abi.specs.declared.answer.Exported.{Exported}

-- what a call answers and leaves
pub record Left : Type 0 where
  pub answer : Exported
  pub numbers : List ℕ
  pub words : List ℕ

abbrev pub left : Exported → List ℕ → List ℕ → Left
left a xs ws = record { answer = a; numbers = xs; words = ws }

module _ (xs ws : List ℕ) where
  -- a call on the region of a record
  abbrev pub on_record : (HeapMemoryRegion → Effect) → Left
  on_record f = cond (eqb (length xs) 21)
      (let p = f (unpacked xs) in left (answer_of p.answer) (packed p.region) p.words)
      (left bad_buffer xs ws)

  abbrev pub answer_on : (HeapMemoryRegion → Answer) → Exported
  answer_on f = cond (eqb (length xs) 21) (answer_of (f (unpacked xs))) bad_buffer

  abbrev pub set_up_left : ℕ → ℕ → ℕ → Left
  set_up_left start n a = on_record (λ _. set_up_promise (record { 0 = start }) n a ws)

  -- a request
  abbrev pub call_left : Request → Left
  call_left x = on_record (λ r. promise r ws x)

  abbrev pub lookup_answer : ℕ → Exported
  lookup_answer a = answer_on (λ r. lookup_promise r ws a)

  abbrev pub audit_answer : Exported
  audit_answer = answer_on (λ r. audit_promise r ws)

abbrev pub empty_left : List ℕ → Left
empty_left xs = on_record xs [] (λ _. effect_of (ok []) empty_region [])

-- the report's twelve numbers, blocks and free blocks by order; a refusal leaves them
pub record Reported : Type 0 where
  pub answer : Exported
  pub report : List ℕ

abbrev pub reported : Exported → List ℕ → Reported
reported a ns = record { answer = a; report = ns }

abbrev pub report_left : List ℕ → List ℕ → List ℕ → Reported
report_left xs ws ns = cond (eqb (length xs) 21 && eqb (length ns) 12)
    (let p = report_promise (unpacked xs) ws in
    reported (answer_of p.answer) (cond (eqb p.answer.number 0) (p.total ++ p.free) ns))
    (reported bad_buffer ns)
