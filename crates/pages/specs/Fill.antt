-- Writes over the words of a block.
use Rattle.std.specs.Prelude.{ℕ, zero, suc, ◌+◌, ◌-◌, ◌^◌, ◌≤◌, ◌<◌, List, length, set}
use Rattle.words.specs.Word.{mem_of}
use Rattle.pages.specs.Info.{free_info, compound_info}

-- the block of order o at page p lies inside the words
pub record BlockIn (p o : ℕ) (ws : List ℕ) : Type 0 where
  pub order : o < 6
  pub ends : p + 2 ^ o ≤ length ws

-- k words from q on become v
unfoldable pub fill : ℕ → ℕ → ℕ → List ℕ → List ℕ
fill q v zero ws = ws
fill q v (suc k) ws = set (fill q v k ws) (q + k) v

-- the pages of the block after its first become Compound of its order
unfoldable pub mark : ℕ → ℕ → List ℕ → List ℕ
mark p o ws = fill (p + 1) (mem_of (compound_info o)) (2 ^ o - 1) ws

-- the block becomes Free of its order, with this next page
unfoldable pub init : ℕ → ℕ → ℕ → List ℕ → List ℕ
init p o next ws = mark p o (set ws p (mem_of (free_info o next)))
