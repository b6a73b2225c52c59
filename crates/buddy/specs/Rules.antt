-- The rules over the single steps: allocate (C40, C41), free (C50, C51), file and slab pages (C60 to C63), set-up (C70, C71). Each is a total
-- function.
use Rattle.std.specs.Prelude.{ℕ, zero, suc, ◌+◌, ◌-◌, ◌*◌, ◌/◌, Bool, true, false, cond, ◌&&◌, [], ◌∷◌, eqb, leb, ltb}
use Rattle.buddy.specs.Runs.{cell, first, start, buddy}
use Rattle.buddy.specs.Heap.{Kind, used, slab, file, tag, is_free, Heap}
use Rattle.buddy.specs.Steps.{push, take, split, merge, label, with_run, add}

-- Rule 4 (C40, C41). The lowest order from j on whose list is not empty, of `left` orders.
pub data Found : Type 0 where
  nothing : Found
  found : ℕ → Found

unfoldable pub lowest : Heap → ℕ → ℕ → Found
lowest h zero j = nothing
lowest h (suc left) j = elim (h.list j) [
  | [] ↦ lowest h left (suc j)
  | p ∷ ps ↦ found j
]

-- the head of list o + 1 is taken and split
unfoldable pub split_head : Heap → ℕ → Heap
split_head h o = elim (h.list (suc o)) [
  | [] ↦ h
  | p ∷ ps ↦ split (take h (suc o) (cell (suc o) p)) o (cell (suc o) p)
]

-- "split down, always taking the list's head" (C40): k times, from list k + o down to list o
unfoldable pub refill : Heap → ℕ → ℕ → Heap
refill h o zero = h
refill h o (suc k) = refill (split_head h (k + o)) o k

-- a request is refused for want of memory, or the block of its order with this number is granted
pub data Grant : Type 0 where
  refused : Grant
  granted : Heap → ℕ → Grant

-- "Grant the head of list o" (C41)
unfoldable pub grant_head : Heap → ℕ → Grant
grant_head h o = elim (h.list o) [
  | [] ↦ refused
  | p ∷ ps ↦ granted (take h o (cell o p)) (cell o p)
]

unfoldable pub grant_from : Heap → ℕ → Found → Grant
grant_from h o nothing = refused
grant_from h o (found j) = grant_head (refill h o (j - o)) o

-- "if list o is empty, take the head of the lowest non-empty higher list and split down" (C40, C41); orders 6 and above have no list
unfoldable pub allocate : Heap → ℕ → Grant
allocate h o = grant_from h o (lowest h (6 - o) o)

-- page p is managed and its tag is Free of order o
unfoldable pub free_at : (ℕ → Bool) → Heap → ℕ → ℕ → Bool
free_at M h o p = M p && (eqb (h.at p).order o && is_free (h.at p).kind)

-- Rule 5 (C50): below order 5, a buddy that is free and of the same order is taken out and merged, and the block one order up is freed. Any other
-- block is put on its list. `left` is 5 minus the order.
unfoldable pub free_block : (ℕ → Bool) → ℕ → Heap → ℕ → ℕ → Heap
free_block M zero h o c = push h o c
free_block M (suc left) h o c = elim (free_at M h o (first o (buddy c))) [
  | false ↦ push h o c
  | true ↦ free_block M left (merge (take h o (buddy c)) o (c / 2)) (suc o) (c / 2)
]

-- page p is managed and heads a block that is out
unfoldable pub out_at : (ℕ → Bool) → Heap → ℕ → Bool
out_at M h p = M p && (eqb (start (h.at p).order p) p && cond (is_free (h.at p).kind) false true)

-- the block that page p heads is freed (C51)
unfoldable pub free_page : (ℕ → Bool) → Heap → ℕ → Heap
free_page M h p = free_block M (5 - (h.at p).order) h (h.at p).order (cell (h.at p).order p)

-- Rule 6 and slab pages (C60, C63): a block of order 0 is granted, and takes its kind
unfoldable pub grant_as : Kind → Grant → Grant
grant_as k refused = refused
grant_as k (granted h c) = granted (label h 0 c k) c

-- "allocation gives count 1" (C60)
unfoldable pub file_page : Heap → Grant
file_page h = grant_as (file 1) (allocate h 0)

unfoldable pub slab_page : Heap → ℕ → Grant
slab_page h i = grant_as (slab i) (allocate h 0)

-- the heap with the count n on file page p (C61)
unfoldable pub recount : Heap → ℕ → ℕ → Heap
recount h p n = label h 0 (cell 0 p) (file n)

-- "put answers one less, and at 0 the page is freed" (C62): the heap after a put that answers n
unfoldable pub put_to : (ℕ → Bool) → Heap → ℕ → ℕ → Heap
put_to M h p zero = free_page M h p
put_to M h p (suc n) = recount h p (suc n)

-- Rule 7 (C70, C71). The pages managed so far, and the heap over them.
pub record State : Type 0 where
  pub managed : ℕ → Bool
  pub heap : Heap

unfoldable pub empty : State
empty = record { managed = λ _. false; heap = record { at = λ _. tag 0 used; list = λ _. []; blocks = λ _. 0 } }

-- the run c of order o is added and freed
unfoldable pub grow : ℕ → ℕ → State → State
grow o c s = record {
  managed = with_run s.managed o c;
  heap = free_block (with_run s.managed o c) (5 - o) (add s.heap o c) o c;
}

-- the k runs of order o from number c on, ascending
unfoldable pub grow_many : ℕ → ℕ → ℕ → State → State
grow_many o c zero s = s
grow_many o c (suc k) s = grow o (c + k) (grow_many o c k s)

-- First the whole runs of order 5, then the pages below them, then those above them, one by one and rising; without such a run all pages one by one
-- (C71). Boot pages lie below a; the managed pages run from a up to e; the order 5 runs from number lo up to hi.
unfoldable pub set_up_from : ℕ → ℕ → ℕ → ℕ → State
set_up_from a e lo hi = cond (ltb lo hi)
    (grow_many 0 (hi * 32) (e - hi * 32) (grow_many 0 a (lo * 32 - a) (grow_many 5 lo (hi - lo) empty)))
    (grow_many 0 a (e - a) empty)

unfoldable pub set_up : ℕ → ℕ → State
set_up a e = set_up_from a e ((a + 31) / 32) (e / 32)

-- the pages from a up to e
unfoldable pub span : ℕ → ℕ → ℕ → Bool
span a e p = leb a p && ltb p e
