-- Histories of the public calls. A history starts from a set-up that succeeded, with no other after it; each later call is handed the record and the
-- words that the last one left; what it answers and leaves is what its promise says, and nothing else is known of it (H1).
use Rattle.std.specs.Prelude.{ℕ, ◌≡◌, cond, List, [], ◌∷◌, ◌++◌, eqb, unwrap_or}
use Rattle.words.specs.declared.place.VirtAddr.{VirtAddr}
use Rattle.buddy.specs.Request.{Request}
use Rattle.buddy.specs.History.{Event, event}
use Rattle.region.specs.declared.HeapMemoryRegion.{HeapMemoryRegion}
use Rattle.sound_calls.specs.Answer.{Effect, effect_of}
use Rattle.sound_calls.specs.declared.Answer.{Answer}
use Rattle.heap.specs.Promise.{set_up_promise, promise, lookup_promise, report_promise, audit_promise}

-- a public call on a region, with any arguments: a request, or a call that only reads; places are addresses, as they are given
pub data Call : Type 0 where
  request : Request → Call
  lookup : ℕ → Call
  report audit : Call

-- what a call answers and leaves, by its promise
abbrev pub called : HeapMemoryRegion → List ℕ → Call → Effect
called r ws (request x) = promise r ws x
called r ws (lookup a) = effect_of (lookup_promise r ws a) r ws
called r ws report = effect_of (report_promise r ws).answer r ws
called r ws audit = effect_of (audit_promise r ws) r ws

-- "Write down only grants and returns that succeeded; a put is a return when it answers 0" (H2). The events are those of the model, with addresses
-- for pages: blocks are named by their addresses, and gets and other puts are written for the counts
abbrev pub written : Request → Answer → List Event
written x t = cond (eqb t.number 0) (event x (unwrap_or t.value 0) ∷ []) []

-- of a call that only reads nothing is written
abbrev pub noted : Call → Answer → List Event
noted (request x) t = written x t
noted (lookup a) t = []
noted report t = []
noted audit t = []

-- a moment: the record and the words that the last call left, and the log, newest first
pub record Moment : Type 0 where
  pub region : HeapMemoryRegion
  pub words : List ℕ
  pub log : List Event

unfoldable pub next : Moment → Call → Moment
next m c =
    let x = called m.region m.words c in
    record { region = x.region; words = x.words; log = noted c x.answer ++ m.log }

-- the moment after a set-up and calls, newest first
unfoldable pub after : VirtAddr → ℕ → ℕ → List ℕ → List Call → Moment
after start n a ws [] = let x = set_up_promise start n a ws in record { region = x.region; words = x.words; log = [] }
after start n a ws (c ∷ cs) = next (after start n a ws cs) c

-- the set-up succeeded
abbrev pub Succeeded : VirtAddr → ℕ → ℕ → List ℕ → Type 0
Succeeded start n a ws = (set_up_promise start n a ws).answer.number ≡ 0
