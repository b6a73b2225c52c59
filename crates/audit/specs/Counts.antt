-- What the functions ask for, and the counts that they answer.
use Rattle.std.specs.Prelude.{ℕ, ◌+◌, ◌≤◌, ◌<◌, ◌≡◌, Bool, List, length, get_or, set}
use Rattle.region.specs.Layout.{Limits}
use Rattle.region.specs.Pages.{blocks, frees}
use Rattle.region.specs.State.{room}
use Rattle.region.specs.declared.HeapMemoryRegion.{HeapMemoryRegion}

-- the record's numbers are those of a region with these words
abbrev pub InLimits : HeapMemoryRegion → List ℕ → Type 0
InLimits r ws = Limits r.start_virt.0 r.page_count r.allocated (length ws)

-- pages a up to e are pages of these words, and few enough to be counted
pub record Within (ws : List ℕ) (a e : ℕ) : Type 0 where
  pub from : a ≤ e
  pub ends : e ≤ length ws
  pub few : e ≤ room

-- one more at place o, if the list has it
abbrev pub one_more : List ℕ → ℕ → List ℕ
one_more l o = set l o (get_or l o 0 + 1)

-- the list holds, order by order, what n says
pub record Tally (n : ℕ → ℕ) (l : List ℕ) : Type 0 where
  pub long : length l ≡ 6
  pub each : (o : ℕ) → o < 6 → get_or l o 0 ≡ n o

-- the counts of blocks and of free blocks that start at pages of M below p
pub record Tallies (ws : List ℕ) (M : ℕ → Bool) (p : ℕ) (bs fs : List ℕ) : Type 0 where
  pub blocks : Tally (blocks ws M p) bs
  pub frees : Tally (frees ws M p) fs
