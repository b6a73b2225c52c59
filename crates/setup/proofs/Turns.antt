-- Blocks made in turn: none at first, then one more at each turn, which is safe. For the loop of `grow_blocks`.
use Rattle.common.specs.Kit.{ℕ, ◌+◌, ◌*◌, ◌^◌, ◌<◌, ◌≡◌, refl, add-one}
use Rattle.region.specs.State.{State}
use Rattle.setup.specs.Steps.{grow_block, GrowOk, grow_blocks, GrowBlocksOk}

module _ (o p : ℕ) (s : State) where
  pub turns-none : s ≡ grow_blocks o p 0 s
  unfolding grow_blocks
  turns-none = refl

  module _ (i : ℕ) {t : State} (so_far : t ≡ grow_blocks o p i s) {size : ℕ} (is : size ≡ 2 ^ o) where
    pub turn-ok : {k : ℕ} → GrowBlocksOk o p k s → i < k → GrowOk o (p + i * size) t
    turn-ok ok l = rw (so_far, is) (ok.turn i l)

    pub turns_more : grow_block o (p + i * size) t ≡ grow_blocks o p (i + 1) s
    unfolding grow_blocks
    turns_more = rw (add-one, so_far, is)
