-- What each public call promises, for all input: its answer, the record and every word. Each promise is one total function that computes:
-- soundness first, then the table's checks in the table's order, then the model's rule.
use Rattle.std.specs.Prelude.{ℕ, ◌+◌, ◌-◌, ◌*◌, ◌%◌, ◌^◌, cond, ◌&&◌, List, [], eqb, leb, length, replicate, Result, Ok, Err}
use Rattle.words.specs.declared.place.VirtAddr.{VirtAddr}
use Rattle.buddy.specs.Rules.{set_up}
use Rattle.buddy.specs.Request.{Request}
use Rattle.region.specs.Layout.{max_pages, alloc_pages, bare}
use Rattle.region.specs.declared.HeapMemoryRegion.{HeapMemoryRegion}
use Rattle.audit.specs.Check.{sound_b}
use Rattle.sound_calls.specs.Answer.{ok, no, refusal, Effect}
use Rattle.sound_calls.specs.Promise.{kept, became, does, looks_up}
use Rattle.sound_calls.specs.declared.Answer.{Answer}
use Rattle.sound_calls.specs.declared.AllocError.{AllocError}
use Rattle.heap.specs.declared.Report.{Report}

-- "no pages, counts 0, no lists"
abbrev pub empty_region : HeapMemoryRegion
empty_region = bare (record { 0 = 0 }) 0 0

-- refusals 1, 2 and 3, in this order, for `words` lent words (R1 to R3)
unfoldable pub set_up_answer : ℕ → ℕ → ℕ → ℕ → Answer
set_up_answer start n a words =
    cond (leb 1 n && leb n max_pages && eqb words n)
    (cond (eqb (start % 4096) 0 && leb (start + 4096 * n) (2 ^ 64 - 1))
    (cond (leb a (alloc_pages n)) (ok []) (no 3 []))
    (no 2 []))
    (no 1 [])

-- SET-UP (C70, R52): a refusal returns the empty record and leaves every word; success depends on the words by their number alone
unfoldable pub set_up_promise : VirtAddr → ℕ → ℕ → List ℕ → Effect
set_up_promise start n a ws =
    let t = set_up_answer start.0 n a (length ws) in
    cond (eqb t.number 0) (became (bare start n a) (set_up a (alloc_pages n)).heap t) (kept empty_region ws t)

-- what a report tells: its answer, and both count arrays; zeros with a refusal
pub record Reported : Type 0 where
  pub answer : Answer
  pub total : List ℕ
  pub free : List ℕ

abbrev pub reported : Result Report AllocError → Reported
reported (Ok x) = record { answer = ok []; total = x.total_pages; free = x.free_pages }
reported (Err e) = record { answer = refusal e; total = replicate 6 0; free = replicate 6 0 }

module _ (r : HeapMemoryRegion) (ws : List ℕ) where
  -- refusal 4: what is not sound is refused, before all else
  abbrev pub damaged : Answer
  damaged = no 4 []

  -- AUDIT (C82)
  unfoldable pub audit_promise : Answer
  audit_promise = cond (sound_b r ws) (ok []) damaged

  -- EVERY REQUEST. "Every public call but set-up, get_order, encode and decode audits soundness first" (C10, R4): refusal 4, and nothing changes
  unfoldable pub promise : Request → Effect
  promise x = cond (sound_b r ws) (does r ws x) (kept r ws damaged)

  -- LOOKUP and REPORT (C80, C81); they take the words to read and hand back no record. A report has both count arrays; zeros with a refusal
  unfoldable pub lookup_promise : ℕ → Answer
  lookup_promise a = cond (sound_b r ws) (looks_up r ws a) damaged

  unfoldable pub report_promise : Reported
  report_promise = cond (sound_b r ws)
      (record { answer = ok []; total = r.nr_pages; free = r.free_pages })
      (record { answer = damaged; total = replicate 6 0; free = replicate 6 0 })
