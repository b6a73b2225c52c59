-- No block at first, then one more at each turn.
use Rattle.setup.proofs.Turns.{turns-none, turns_more}
use Rattle.setup.proofs.grow_blocks.Goals as goal

pub loop-i-init : goal.loop-i-init
loop-i-init c = turns-none _ _ _

pub loop-i-preserved : goal.loop-i-preserved
loop-i-preserved c = rw c.grow_block-next.ensures (turns_more _ _ _ c.loop-i.i c.loop-i.invariant c.size-step.ensures)
