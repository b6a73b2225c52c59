-- The single steps on a heap, each of one order: put on a list, take off, split, merge, label, add. A block is named by its order and
-- the number of its run. A block that is off the lists is out, also for as long as a rule has it in hand.
use Rattle.std.specs.Prelude.{ℕ, suc, ◌+◌, ◌-◌, ◌*◌, Bool, cond, ◌||◌, ◌∷◌, eqb}
use Rattle.common.specs.Numbers.{update, remove}
use Rattle.buddy.specs.Runs.{cell, first}
use Rattle.buddy.specs.Heap.{Kind, free, used, Tag, tag, Heap}

-- every page of run c of order o takes the tag v
unfoldable pub paint : (ℕ → Tag) → ℕ → ℕ → Tag → ℕ → Tag
paint at o c v q = cond (eqb (cell o q) c) v (at q)

-- "puts at the head" (C21): the block out becomes free, ahead of its list
unfoldable pub push : Heap → ℕ → ℕ → Heap
push h o c = record {
  at = paint h.at o c (tag o free);
  list = update h.list o (first o c ∷ h.list o);
  blocks = h.blocks;
}

-- "takes a named block out and keeps the order of the rest" (C20, C22)
unfoldable pub take : Heap → ℕ → ℕ → Heap
take h o c = record {
  at = paint h.at o c (tag o used);
  list = update h.list o (remove (first o c) (h.list o));
  blocks = h.blocks;
}

-- the block out of order o + 1 becomes two blocks out of order o
unfoldable pub halve : Heap → ℕ → ℕ → Heap
halve h o c = record {
  at = paint h.at (suc o) c (tag o used);
  list = h.list;
  blocks = update (update h.blocks (suc o) (h.blocks (suc o) - 1)) o (h.blocks o + 2);
}

-- "split of a block puts its lower half, then its upper half, ahead of the next lower list" (C30): the lower half stands first
unfoldable pub split : Heap → ℕ → ℕ → Heap
split h o c = push (push (halve h o c) o (c * 2 + 1)) o (c * 2)

-- "merge makes the lower page the head, one order up" (C31): the two halves of run c of order o + 1, both out, become one block out
unfoldable pub merge : Heap → ℕ → ℕ → Heap
merge h o c = record {
  at = paint h.at (suc o) c (tag (suc o) used);
  list = h.list;
  blocks = update (update h.blocks o (h.blocks o - 2)) (suc o) (h.blocks (suc o) + 1);
}

-- the block out takes the kind k
unfoldable pub label : Heap → ℕ → ℕ → Kind → Heap
label h o c k = record { at = paint h.at o c (tag o k); list = h.list; blocks = h.blocks }

-- the managed pages with the run c of order o
unfoldable pub with_run : (ℕ → Bool) → ℕ → ℕ → ℕ → Bool
with_run M o c p = eqb (cell o p) c || M p

-- the run c of order o becomes a block out: the heap over `with_run M o c`
unfoldable pub add : Heap → ℕ → ℕ → Heap
add h o c = record {
  at = paint h.at o c (tag o used);
  list = h.list;
  blocks = update h.blocks o (h.blocks o + 1);
}
