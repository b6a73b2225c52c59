-- The customer's cases that a model can tell, by computation: answers in turn, lists, counts and the log. These are results.
-- With the halves of a split linked the other way round all of demand 3 would still hold; this would not.
use Rattle.common.specs.Kit.{ℕ, zero, suc, ◌*◌, ◌≡◌, refl, Bool, List, [], ◌∷◌, map}
use Rattle.common.specs.Numbers.{update, remove}
use Rattle.buddy.specs.Runs.{cell, first, buddy}
use Rattle.buddy.specs.Steps.{paint, push, take, halve, split, merge, label, with_run, add}
use Rattle.buddy.specs.Rules.{lowest, split_head, refill, grant_head, grant_from, allocate, free_at, free_block, out_at, free_page, grant_as, file_page, slab_page, recount, put_to, empty, grow, grow_many, set_up_from, set_up, span}
use Rattle.buddy.specs.Request.{Request, for_block, for_file, for_slab, on, to_free, to_get, to_put}
use Rattle.buddy.specs.History.{ModelAnswer, denied, done, page, counted, grants, on_file, call, written, Moment, next, after, still_out}

-- calls one after the other, each with its answer
abbrev Played : Type 0
Played = List (Request × ModelAnswer)

-- what is answered to the calls, whatever stands beside them
answers : (ℕ → Bool) → Moment → Played → Played
answers M m [] = []
answers M m (x ∷ xs) = (x.0, (call M m.heap x.0).answer) ∷ answers M (next M m x.0) xs

-- the moment after them
later : (ℕ → Bool) → Moment → Played → Moment
later M m [] = m
later M m (x ∷ xs) = later M (next M m x.0) xs

-- something of each of the orders 0 to 5
six : {A : Type 0} → (ℕ → A) → List A
six f = f 0 ∷ f 1 ∷ f 2 ∷ f 3 ∷ f 4 ∷ f 5 ∷ []

-- a region whose managed pages run from `from` up to `to` is set up, and calls are made; they leave these lists, block counts, and blocks
-- still out by the log
record Case : Type 0 where
  from : ℕ
  to : ℕ
  calls : Played
  lists : List (List ℕ)
  counts : List ℕ
  out : List (List ℕ)

-- what the rules make of a case
found : Case → Case
found c =
    let M = span c.from c.to in
    let start = after M (set_up c.from c.to).heap [] in
    let end = later M start c.calls in
    record {
      from = c.from;
      to = c.to;
      calls = answers M start c.calls;
      lists = six end.heap.list;
      counts = six end.heap.blocks;
      out = six (still_out end.log);
    }

-- nothing of any order
none : List (List ℕ)
none = [] ∷ [] ∷ [] ∷ [] ∷ [] ∷ [] ∷ []

-- the first pages of the k lowest runs of order 5, falling
fives : ℕ → List ℕ
fives zero = []
fives (suc k) = k * 32 ∷ fives k

-- calls that leave nothing out: the region is again as set-up left it
back : ℕ → ℕ → List (List ℕ) → List ℕ → Played → Case
back from to lists counts calls = record { from = from; to = to; calls = calls; lists = lists; counts = counts; out = none }

-- region R: 64 pages, 3 boot, one metadata page
on_r : Played → Case
on_r = back 3 63 ((62 ∷ 3 ∷ []) ∷ (60 ∷ []) ∷ (56 ∷ 4 ∷ []) ∷ (48 ∷ 8 ∷ []) ∷ (32 ∷ 16 ∷ []) ∷ [] ∷ []) (2 ∷ 1 ∷ 2 ∷ 2 ∷ 2 ∷ 0 ∷ [])

-- 1,024 pages, none boot, two metadata pages
on_wide : Played → Case
on_wide = back 0 1022 ([] ∷ (1020 ∷ []) ∷ (1016 ∷ []) ∷ (1008 ∷ []) ∷ (992 ∷ []) ∷ fives 31 ∷ []) (0 ∷ 1 ∷ 1 ∷ 1 ∷ 1 ∷ 31 ∷ [])

-- p boot pages and nothing managed: every request is refused
bare : ℕ → Case
bare p = back p p none (0 ∷ 0 ∷ 0 ∷ 0 ∷ 0 ∷ 0 ∷ [])
    ((for_block 0, denied) ∷ (for_block 1, denied) ∷ (for_block 2, denied) ∷ (for_block 3, denied) ∷ (for_block 4, denied) ∷ (for_block 5, denied) ∷ (for_file, denied) ∷ (for_slab 64, denied) ∷ [])

table : List Case
table =
    -- R after set-up; order 5 is refused, and so is order 6; pages 2 (boot) and 63 (metadata) cannot be freed, nor a page that is free
    on_r []
    ∷ on_r ((for_block 5, denied) ∷ (for_block 6, denied) ∷ (on to_free 2, denied) ∷ (on to_free 63, denied) ∷ (on to_free 16, denied) ∷ [])
    -- order 1 twice, then page 56 is freed
    ∷ record {
      from = 3;
      to = 63;
      calls = (for_block 1, page 60) ∷ (for_block 1, page 56) ∷ [];
      lists = (62 ∷ 3 ∷ []) ∷ (58 ∷ []) ∷ (4 ∷ []) ∷ (48 ∷ 8 ∷ []) ∷ (32 ∷ 16 ∷ []) ∷ [] ∷ [];
      counts = 2 ∷ 3 ∷ 1 ∷ 2 ∷ 2 ∷ 0 ∷ [];
      out = [] ∷ (56 ∷ 60 ∷ []) ∷ [] ∷ [] ∷ [] ∷ [] ∷ [];
    }
    ∷ record {
      from = 3;
      to = 63;
      calls = (for_block 1, page 60) ∷ (for_block 1, page 56) ∷ (on to_free 56, done) ∷ [];
      lists = (62 ∷ 3 ∷ []) ∷ [] ∷ (56 ∷ 4 ∷ []) ∷ (48 ∷ 8 ∷ []) ∷ (32 ∷ 16 ∷ []) ∷ [] ∷ [];
      counts = 2 ∷ 1 ∷ 2 ∷ 2 ∷ 2 ∷ 0 ∷ [];
      out = [] ∷ (60 ∷ []) ∷ [] ∷ [] ∷ [] ∷ [] ∷ [];
    }
    -- a block is freed once, by its first page
    ∷ on_r ((for_block 1, page 60) ∷ (on to_free 61, denied) ∷ (on to_free 60, done) ∷ (on to_free 60, denied) ∷ [])
    -- a file page is got twice and put three times, and then is none; a free takes one back whatever its count
    ∷ on_r ((for_file, page 62) ∷ (on to_get 62, counted 2) ∷ (on to_get 62, counted 3) ∷ (on to_put 62, counted 2) ∷ (on to_put 62, counted 1) ∷ (on to_put 62, counted 0) ∷ (on to_put 62, denied) ∷ [])
    ∷ on_r ((for_file, page 62) ∷ (on to_get 62, counted 2) ∷ (on to_free 62, done) ∷ (on to_get 62, denied) ∷ [])
    -- a slab page is no file page, and an item size of 0 is refused
    ∷ on_r ((for_slab 64, page 62) ∷ (on to_get 62, denied) ∷ (on to_put 62, denied) ∷ (on to_free 62, done) ∷ (for_slab 0, denied) ∷ [])
    -- the wide region after set-up; its first grant of order 5 is page 960, and order 5 never merges
    ∷ on_wide []
    ∷ on_wide ((for_block 5, page 960) ∷ (for_block 5, page 928) ∷ (on to_free 928, done) ∷ (on to_free 960, done) ∷ [])
    -- one page, which is a metadata page; 63 boot pages in 64
    ∷ bare 0
    ∷ bare 63
    ∷ []

cases : map found table ≡ table
unfolding found table answers later six none fives back on_r on_wide bare update remove cell first buddy paint push take halve split merge label with_run add lowest split_head refill grant_head grant_from allocate free_at free_block out_at free_page grant_as file_page slab_page recount put_to empty grow grow_many set_up_from set_up span grants on_file call written next after still_out
cases = refl
