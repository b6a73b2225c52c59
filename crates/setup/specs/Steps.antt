-- Set-up on a state, as the code makes it (C70, C71). Each step has beside it what makes it safe.
use Rattle.std.specs.Prelude.{ℕ, zero, suc, ◌+◌, ◌-◌, ◌*◌, ◌/◌, ◌^◌, ◌≤◌, ◌<◌, cond, List, ltb, length, set}
use Rattle.words.specs.Word.{mem_of}
use Rattle.words.specs.declared.place.VirtAddr.{VirtAddr}
use Rattle.pages.specs.Info.{allocated_info, reserved_info}
use Rattle.pages.specs.Fill.{BlockIn, fill, mark}
use Rattle.region.specs.Layout.{alloc_pages, bare}
use Rattle.region.specs.State.{State, st, room, blocks_in, with_blocks}
use Rattle.region.specs.Steps.{free_from, FreeOk}

-- the words before any page is managed: Allocated order 0 below alloc_pages, Reserved from there on (C70)
unfoldable pub blank : ℕ → List ℕ → List ℕ
blank n ws =
    fill (alloc_pages n) (mem_of reserved_info) (n - alloc_pages n) (fill 0 (mem_of (allocated_info 0)) (alloc_pages n) ws)

-- the run of order o at page p becomes one more block, out
unfoldable pub add_block : ℕ → ℕ → State → State
add_block o p s =
    st (with_blocks s.reg o (blocks_in s o + 1)) (mark p o (set s.ws p (mem_of (allocated_info o))))

-- and is freed (C50)
unfoldable pub grow_block : ℕ → ℕ → State → State
grow_block o p s = free_from (5 - o) p o (add_block o p s)

pub record GrowOk (o p : ℕ) (s : State) : Type 0 where
  pub block : BlockIn p o s.ws
  pub count : blocks_in s o < room
  pub free : FreeOk (5 - o) p o (add_block o p s)

-- k runs of order o from page p on, ascending
unfoldable pub grow_blocks : ℕ → ℕ → ℕ → State → State
grow_blocks o p zero s = s
grow_blocks o p (suc k) s = grow_block o (p + k * 2 ^ o) (grow_blocks o p k s)

pub record GrowBlocksOk (o p k : ℕ) (s : State) : Type 0 where
  pub order : o < 6
  pub turn : (i : ℕ) → i < k → GrowOk o (p + i * 2 ^ o) (grow_blocks o p i s)

-- C71: the whole runs of order 5, then the pages below them, then those above them, one by one; without such a run all pages one by one: the pages
-- from a up to e, with the order 5 runs from page lo up to hi
unfoldable pub grow_from : ℕ → ℕ → ℕ → ℕ → State → State
grow_from a e lo hi s =
    cond (ltb lo hi)
    (grow_blocks 0 hi (e - hi) (grow_blocks 0 a (lo - a) (grow_blocks 5 lo ((hi - lo) / 32) s)))
    (grow_blocks 0 a (e - a) s)

pub record GrowFromOk (a e lo hi : ℕ) (s : State) : Type 0 where
  pub runs : lo < hi → GrowBlocksOk 5 lo ((hi - lo) / 32) s
  pub low : lo < hi → GrowBlocksOk 0 a (lo - a) (grow_blocks 5 lo ((hi - lo) / 32) s)
  pub high : lo < hi → GrowBlocksOk 0 hi (e - hi) (grow_blocks 0 a (lo - a) (grow_blocks 5 lo ((hi - lo) / 32) s))
  pub all : hi ≤ lo → GrowBlocksOk 0 a (e - a) s

-- the pages from a up to e, with all order 5 runs that lie in them
unfoldable pub grow_span : ℕ → ℕ → State → State
grow_span a e = grow_from a e ((a + 31) / 32 * 32) (e / 32 * 32)

pub record GrowSpanOk (a e : ℕ) (s : State) : Type 0 where
  pub order : a ≤ e
  pub ends : e ≤ length s.ws
  pub calls : GrowFromOk a e ((a + 31) / 32 * 32) (e / 32 * 32) s

-- init_memory: n pages, of which a are boot pages; "what the words held before plays no part" (C70)
unfoldable pub init_memory : VirtAddr → ℕ → ℕ → List ℕ → State
init_memory start n a ws = grow_span a (alloc_pages n) (st (bare start n a) (blank n ws))

abbrev pub InitMemoryOk : VirtAddr → ℕ → ℕ → List ℕ → Type 0
InitMemoryOk start n a ws = GrowSpanOk a (alloc_pages n) (st (bare start n a) (blank n ws))
