-- The walk along a list, taken one step: i steps of n are done.
use Rattle.common.specs.Kit.{ℕ, suc, ◌+◌, ◌-◌, ◌<◌, ◌≡◌, cond, List, eqb, length, Some, None, arith}
use Rattle.words.specs.Word.{no_page}
use Rattle.pages.specs.Said.{said, next_in}
use Rattle.region.specs.State.{page_before, WalkOk}

module _ (n i at p : ℕ) (ws : List ℕ) (more : i < n) where
  left : n - i ≡ suc (n - (i + 1))
  left = omega arith

  pub before-step :
      page_before (n - i) at p ws
      ≡ cond (eqb (next_in (said ws at)) no_page) None
      (cond (eqb (next_in (said ws at)) p) (Some at) (page_before (n - (i + 1)) (next_in (said ws at)) p ws))
  unfolding page_before
  before-step = rw left

  pub walk_step :
      WalkOk (n - i) at p ws →
      (at < length ws)
      × ((next_in (said ws at) ≡ no_page → ⊥) → (next_in (said ws at) ≡ p → ⊥) → WalkOk (n - (i + 1)) (next_in (said ws at)) p ws)
  unfolding WalkOk
  walk_step w = rw left at w
