-- Histories: calls one after the other, each on the heap that the last one left, and what is written down of them.
use Rattle.std.specs.Prelude.{ℕ, ◌+◌, ◌-◌, Bool, cond, List, [], ◌∷◌, ◌++◌, eqb}
use Rattle.common.specs.Numbers.{remove}
use Rattle.buddy.specs.Runs.{first}
use Rattle.buddy.specs.Request.{Request, for_block, for_file, for_slab, on, to_free, to_get, to_put}
use Rattle.buddy.specs.Heap.{Kind, free, used, slab, file, good_item, Heap}
use Rattle.buddy.specs.Rules.{Grant, refused, granted, allocate, file_page, slab_page, out_at, free_page, recount, put_to}

-- the answer to a request: refused, the page granted, done, or the count after a get or a put
pub data ModelAnswer : Type 0 where
  denied done : ModelAnswer
  page counted : ℕ → ModelAnswer

-- what a call leaves and answers
pub record Outcome : Type 0 where
  pub heap : Heap
  pub answer : ModelAnswer

abbrev pub outcome : Heap → ModelAnswer → Outcome
outcome h a = record { heap = h; answer = a }

-- a refusal changes nothing
unfoldable pub grants : Heap → ℕ → Grant → Outcome
grants h o refused = outcome h denied
grants h o (granted g c) = outcome g (page (first o c))

-- what f makes of the count of a file page; of any other page the call is refused
unfoldable pub on_file : Heap → Kind → (ℕ → Outcome) → Outcome
on_file h free f = outcome h denied
on_file h used f = outcome h denied
on_file h (slab i) f = outcome h denied
on_file h (file n) f = f n

unfoldable pub call : (ℕ → Bool) → Heap → Request → Outcome
call M h (for_block o) = grants h o (allocate h o)
call M h for_file = grants h 0 (file_page h)
call M h (for_slab i) = cond (good_item i) (grants h 0 (slab_page h i)) (outcome h denied)
call M h (on to_free p) = cond (out_at M h p) (outcome (free_page M h p) done) (outcome h denied)
call M h (on to_get p) = cond (M p) (on_file h (h.at p).kind (λ n. outcome (recount h p (n + 1)) (counted (n + 1)))) (outcome h denied)
call M h (on to_put p) = cond (M p) (on_file h (h.at p).kind (λ n. outcome (put_to M h p (n - 1)) (counted (n - 1)))) (outcome h denied)

-- what is written down of a call that succeeded: a block granted, with its kind, order and first page; a block returned, by its page;
-- a get; a put that did not return the page
pub data Event : Type 0 where
  took : Kind → ℕ → ℕ → Event
  gave got left : ℕ → Event

-- "Write down only grants and returns that succeeded; a put is a return when it answers 0" (H2): what is written down of a request that succeeded
-- with the value v, the place granted or the count
abbrev pub event : Request → ℕ → Event
event (for_block o) v = took used o v
event for_file v = took (file 1) 0 v
event (for_slab i) v = took (slab i) 0 v
event (on to_free p) v = gave p
event (on to_get p) v = got p
event (on to_put p) v = cond (eqb v 0) (gave p) (left p)

unfoldable pub written : Request → ModelAnswer → List Event
written x denied = []
written x done = event x 0 ∷ []
written x (page p) = event x p ∷ []
written x (counted n) = event x n ∷ []

-- a moment: the heap, and the log so far, newest first
pub record Moment : Type 0 where
  pub heap : Heap
  pub log : List Event

unfoldable pub next : (ℕ → Bool) → Moment → Request → Moment
next M m c = let r = call M m.heap c in record { heap = r.heap; log = written c r.answer ++ m.log }

-- the moment after the calls, newest first, from a heap where nothing is out
unfoldable pub after : (ℕ → Bool) → Heap → List Request → Moment
after M h [] = record { heap = h; log = [] }
after M h (c ∷ cs) = next M (after M h cs) c

-- the first pages of the blocks of order o still out by the log: a return takes out the block that was granted at that page (H3)
unfoldable pub still_out : List Event → ℕ → List ℕ
still_out [] o = []
still_out (took k j p ∷ es) o = cond (eqb j o) (p ∷ still_out es o) (still_out es o)
still_out (gave p ∷ es) o = remove p (still_out es o)
still_out (got p ∷ es) o = still_out es o
still_out (left p ∷ es) o = still_out es o

-- how often page p was got, and how often it was put, since its last grant
unfoldable pub gets : List Event → ℕ → ℕ
gets [] p = 0
gets (took k j q ∷ es) p = cond (eqb q p) 0 (gets es p)
gets (gave q ∷ es) p = gets es p
gets (got q ∷ es) p = cond (eqb q p) (gets es p + 1) (gets es p)
gets (left q ∷ es) p = gets es p

unfoldable pub puts : List Event → ℕ → ℕ
puts [] p = 0
puts (took k j q ∷ es) p = cond (eqb q p) 0 (puts es p)
puts (gave q ∷ es) p = puts es p
puts (got q ∷ es) p = puts es p
puts (left q ∷ es) p = cond (eqb q p) (puts es p + 1) (puts es p)

-- the kind that page p was last granted as. Of a page that was never granted it says `used`, which nobody asks
unfoldable pub granted_as : List Event → ℕ → Kind
granted_as [] p = used
granted_as (took k j q ∷ es) p = cond (eqb q p) k (granted_as es p)
granted_as (gave q ∷ es) p = granted_as es p
granted_as (got q ∷ es) p = granted_as es p
granted_as (left q ∷ es) p = granted_as es p
