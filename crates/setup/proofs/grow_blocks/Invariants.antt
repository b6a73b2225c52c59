-- `i` blocks are made.
use Rattle.common.specs.Kit.{◌≡◌}
use Rattle.region.specs.State.{st}
use Rattle.setup.specs.Steps.{grow_blocks}
use Rattle.setup.proofs.grow_blocks.Given as goal

abbrev pub invariant-loop-i : goal.invariant-loop-i
invariant-loop-i l = st l.next l.words ≡ grow_blocks l.order l.from l.i (st l.initial.next l.initial.words)
