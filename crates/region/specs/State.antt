-- A state, that is a record (W12) and its words, and the single steps on it, as the code makes them: lists, split and merge.
-- Each has beside it what makes it safe: indexes in range and counts that do not pass their ends. No step speaks of soundness.
use Rattle.std.specs.Prelude.{ℕ, zero, suc, ◌+◌, ◌-◌, ◌^◌, ◌≤◌, ◌<◌, ◌≡◌, Bool, true, false, cond, List, eqb, leb, length, get_or, set, Option, Some, None}
use Rattle.words.specs.Word.{no_page, mem_of}
use Rattle.pages.specs.Info.{free_info, allocated_info}
use Rattle.pages.specs.Said.{said, next_in}
use Rattle.pages.specs.Fill.{BlockIn, mark, init}
use Rattle.region.specs.declared.HeapMemoryRegion.{HeapMemoryRegion}

pub record State : Type 0 where
  pub reg : HeapMemoryRegion
  pub ws : List ℕ

abbrev pub st : HeapMemoryRegion → List ℕ → State
st r ws = record { reg = r; ws = ws }

-- an answer and the state after it are the ones expected
pub record Gives {A : Type 0} (answer : A) (after : State) (a : A) (s : State) : Type 0 where
  pub answers : a ≡ answer
  pub leaves : s ≡ after

abbrev pub head_in : State → ℕ → ℕ
head_in s o = get_or s.reg.next_page o 0

abbrev pub frees_in : State → ℕ → ℕ
frees_in s o = get_or s.reg.free_pages o 0

abbrev pub blocks_in : State → ℕ → ℕ
blocks_in s o = get_or s.reg.nr_pages o 0

-- more than any count or page of a region, and far from 2^64
abbrev pub room : ℕ
room = 2 ^ 32

-- the record with another head and free count of list o
unfoldable pub with_list : HeapMemoryRegion → ℕ → ℕ → ℕ → HeapMemoryRegion
with_list r o head n = record {
  start_virt = r.start_virt;
  page_count = r.page_count;
  allocated = r.allocated;
  nr_pages = r.nr_pages;
  free_pages = set r.free_pages o n;
  next_page = set r.next_page o head;
}

-- the record with another number of blocks of order o
unfoldable pub with_blocks : HeapMemoryRegion → ℕ → ℕ → HeapMemoryRegion
with_blocks r o n = record {
  start_virt = r.start_virt;
  page_count = r.page_count;
  allocated = r.allocated;
  nr_pages = set r.nr_pages o n;
  free_pages = r.free_pages;
  next_page = r.next_page;
}

-- get_next_page: take the head of list o off, and mark it Allocated (C20)
unfoldable pub head_taken : ℕ → State → Option ℕ
head_taken o s = cond (eqb (head_in s o) no_page) None (Some (head_in s o))

unfoldable pub take_head : ℕ → State → State
take_head o s =
    cond (eqb (head_in s o) no_page) s
    (st (with_list s.reg o (next_in (said s.ws (head_in s o))) (frees_in s o - 1)) (set s.ws (head_in s o) (mem_of (allocated_info o))))

pub record TakeOk (o : ℕ) (s : State) : Type 0 where
  pub order : o < 6
  pub head : (head_in s o ≡ no_page → ⊥) → head_in s o < length s.ws
  pub some : (head_in s o ≡ no_page → ⊥) → 0 < frees_in s o

-- free_page_raw: put page p at the head of list o (C21)
unfoldable pub put_head : ℕ → ℕ → State → State
put_head p o s = st (with_list s.reg o p (frees_in s o + 1)) (set s.ws p (mem_of (free_info o (head_in s o))))

pub record PutOk (p o : ℕ) (s : State) : Type 0 where
  pub order : o < 6
  pub page : p < length s.ws
  pub count : frees_in s o < room

-- the page before p on the list that goes on at `at`, in at most k steps
unfoldable pub page_before : ℕ → ℕ → ℕ → List ℕ → Option ℕ
page_before zero at p ws = None
page_before (suc k) at p ws =
    cond (eqb (next_in (said ws at)) no_page) None
    (cond (eqb (next_in (said ws at)) p) (Some at) (page_before k (next_in (said ws at)) p ws))

unfoldable pub WalkOk : ℕ → ℕ → ℕ → List ℕ → Type 0
WalkOk zero at p ws = Unit {0}
WalkOk (suc k) at p ws =
    (at < length ws)
    × ((next_in (said ws at) ≡ no_page → ⊥) → (next_in (said ws at) ≡ p → ⊥) → WalkOk k (next_in (said ws at)) p ws)

-- take page p, which stands after page b on list o, out of it
unfoldable pub cut : ℕ → ℕ → ℕ → State → State
cut b p o s =
    st (with_list s.reg o (head_in s o) (frees_in s o - 1))
    (set (set s.ws b (mem_of (free_info o (next_in (said s.ws p))))) p (mem_of (allocated_info o)))

pub record CutOk (b p o : ℕ) (s : State) : Type 0 where
  pub order : o < 6
  pub before : b < length s.ws
  pub page : p < length s.ws
  pub some : 0 < frees_in s o

-- what f makes of what was found, and d if it is nothing
abbrev pub if_at : {A : Type 0} → Option ℕ → (ℕ → A) → A → A
if_at (Some p) f d = f p
if_at None f d = d

-- allocate_pfn: take page p out of list o (C22)
abbrev pub before : ℕ → ℕ → State → Option ℕ
before p o s = page_before (frees_in s o) (head_in s o) p s.ws

unfoldable pub pull : ℕ → ℕ → State → State
pull p o s =
    cond (eqb (head_in s o) no_page) s
    (cond (eqb (head_in s o) p) (take_head o s) (if_at (before p o s) (λ b. cut b p o s) s))

unfoldable pub pulls : ℕ → ℕ → State → Bool
pulls p o s =
    cond (eqb (head_in s o) no_page) false
    (cond (eqb (head_in s o) p) true (if_at (before p o s) (λ b. true) false))

pub record PullOk (p o : ℕ) (s : State) : Type 0 where
  pub take : TakeOk o s
  pub walk : (head_in s o ≡ no_page → ⊥) → (head_in s o ≡ p → ⊥) → WalkOk (frees_in s o) (head_in s o) p s.ws
  pub cuts : (b : ℕ) → (head_in s o ≡ no_page → ⊥) → (head_in s o ≡ p → ⊥) → before p o s ≡ Some b → CutOk b p o s

-- split_page: the block of order o + 1 at page p, which is out, becomes two of order o at the head of list o, the lower half first (C30)
unfoldable pub split : ℕ → ℕ → State → State
split p o s =
    st
    (with_list (with_blocks (with_blocks s.reg (suc o) (blocks_in s (suc o) - 1)) o (blocks_in s o + 2)) o p (frees_in s o + 2))
    (init (p + 2 ^ o) o (head_in s o) (init p o (p + 2 ^ o) s.ws))

-- of a block of the order that is split
pub record SplitOk (p order : ℕ) (s : State) : Type 0 where
  pub small : order < 6
  pub above : 0 < order
  pub low : BlockIn p (order - 1) s.ws
  pub high : BlockIn (p + 2 ^ (order - 1)) (order - 1) s.ws
  pub some : 0 < blocks_in s order
  pub count : blocks_in s (order - 1) ≤ room
  pub free : frees_in s (order - 1) ≤ room

abbrev pub lower : ℕ → ℕ → ℕ
lower p q = cond (leb p q) p q

-- merge_pages: two blocks of order o that are out become one, one order up, at the lower page p (C31)
unfoldable pub merge : ℕ → ℕ → State → State
merge p o s =
    st
    (with_blocks (with_blocks s.reg o (blocks_in s o - 2)) (suc o) (blocks_in s (suc o) + 1))
    (mark p (suc o) (set s.ws p (mem_of (allocated_info (suc o)))))

pub record MergeOk (p q o : ℕ) (s : State) : Type 0 where
  pub order : o < 5
  pub block : BlockIn (lower p q) (o + 1) s.ws
  pub pair : 2 ≤ blocks_in s o
  pub count : blocks_in s (o + 1) ≤ room
