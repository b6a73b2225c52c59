-- The rules on a state, over the single steps, as the code makes them: free (C50), refill and allocate (C40, C41). Each has beside it what makes it
-- safe.
use Rattle.std.specs.Prelude.{ℕ, zero, suc, ◌+◌, ◌-◌, ◌%◌, ◌^◌, ◌≤◌, ◌<◌, ◌≡◌, Bool, true, false, cond, List, eqb, ltb, length, get_or, set, Option, Some, None}
use Rattle.words.specs.Word.{no_page, mem_of}
use Rattle.words.specs.declared.word.PageInfo.{PageInfo}
use Rattle.pages.specs.Said.{said}
use Rattle.pages.specs.Meaning.{free_order}
use Rattle.region.specs.Pages.{buddy_of}
use Rattle.region.specs.State.{State, st, room, if_at, head_taken, take_head, TakeOk, put_head, PutOk, pull, PullOk, split, SplitOk, lower, merge, MergeOk}

-- the word of page p is written
abbrev pub write : ℕ → PageInfo → State → State
write p i s = st s.reg (set s.ws p (mem_of i))

-- compound_neighbor: the buddy of the block of order o at page p, below order 5 and inside a region of that many pages
unfoldable pub neighbor : ℕ → ℕ → ℕ → Option ℕ
neighbor pages p o = cond (ltb o 5) (cond (ltb (buddy_of o p) pages) (Some (buddy_of o p)) None) None

pub record NeighborOk (p o : ℕ) : Type 0 where
  pub order : o < 6
  pub page : p < room
  pub above : (p % 2 ^ (o + 1) ≡ 0 → ⊥) → 2 ^ o ≤ p

-- try_to_merge_page: whether the buddy is there and Free of the same order, and the state in which the two are one block out
unfoldable pub joins : ℕ → ℕ → State → Bool
joins p o s = if_at (neighbor s.reg.page_count p o) (λ q. eqb (free_order (said s.ws q)) o) false

unfoldable pub join : ℕ → ℕ → State → State
join p o s = merge (lower p (buddy_of o p)) o (pull (buddy_of o p) o s)

-- the page and the state that trying leaves
abbrev pub try_page : ℕ → ℕ → State → Option ℕ
try_page p o s = cond (joins p o s) (Some (lower p (buddy_of o p))) None

abbrev pub try_join : ℕ → ℕ → State → State
try_join p o s = cond (joins p o s) (join p o s) s

pub record TryOk (p o : ℕ) (s : State) : Type 0 where
  pub neighbor : NeighborOk p o
  pub words : s.reg.page_count ≤ length s.ws
  pub pulled : joins p o s ≡ true → PullOk (buddy_of o p) o s
  pub merged : joins p o s ≡ true → MergeOk p (buddy_of o p) o (pull (buddy_of o p) o s)

-- free_page_order (C50); `left` is 5 minus the order
unfoldable pub free_from : ℕ → ℕ → ℕ → State → State
free_from zero p o s = put_head p o s
free_from (suc left) p o s = cond (joins p o s) (free_from left (lower p (buddy_of o p)) (suc o) (join p o s)) (put_head p o s)

unfoldable pub FreeOk : ℕ → ℕ → ℕ → State → Type 0
FreeOk zero p o s = TryOk p o s × PutOk p o s
FreeOk (suc left) p o s =
    TryOk p o s
    × ((joins p o s ≡ true → FreeOk left (lower p (buddy_of o p)) (suc o) (join p o s)) × (joins p o s ≡ false → PutOk p o s))

-- the lowest order from j on whose list has a head, of `left` orders
unfoldable pub lowest_from : ℕ → ℕ → List ℕ → Option ℕ
lowest_from zero j heads = None
lowest_from (suc left) j heads = cond (eqb (get_or heads j 0) no_page) (lowest_from left (suc j) heads) (Some j)

-- refill_page_list (C40): the head of list k + o is split down to list o
unfoldable pub split_down : ℕ → ℕ → State → State
split_down o zero s = s
split_down o (suc k) s =
    if_at (head_taken (suc (k + o)) s) (λ p. split_down o k (split p (k + o) (take_head (suc (k + o)) s))) (take_head (suc (k + o)) s)

unfoldable pub DownOk : ℕ → ℕ → State → Type 0
DownOk o zero s = Unit {0}
DownOk o (suc k) s =
    TakeOk (suc (k + o)) s
    × ((p : ℕ) → head_taken (suc (k + o)) s ≡ Some p →
    SplitOk p (suc (k + o)) (take_head (suc (k + o)) s) × DownOk o k (split p (k + o) (take_head (suc (k + o)) s)))

-- from list j down to list o
pub record SplitDownOk (j o : ℕ) (s : State) : Type 0 where
  pub small : j < 6
  pub from : o ≤ j
  pub down : DownOk o (j - o) s

unfoldable pub refill : ℕ → State → State
refill o s = if_at (lowest_from (6 - o) o s.reg.next_page) (λ j. split_down o (j - o) s) s

pub record RefillOk (o : ℕ) (s : State) : Type 0 where
  pub order : o < 6
  pub down : (j : ℕ) → lowest_from (6 - o) o s.reg.next_page ≡ Some j → SplitDownOk j o s

-- allocate_pages_info (C41); the page granted is marked with its info
unfoldable pub grant_page : ℕ → State → Option ℕ
grant_page o s = head_taken o (refill o s)

unfoldable pub grant : ℕ → PageInfo → State → State
grant o i s = if_at (grant_page o s) (λ p. write p i (take_head o (refill o s))) (take_head o (refill o s))

pub record GrantOk (o : ℕ) (s : State) : Type 0 where
  pub refill : RefillOk o s
  pub take : TakeOk o (Rattle.region.specs.Steps.refill o s)
