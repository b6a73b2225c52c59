-- No other word so far, and the words that are left, have the answer, at each step.
use Rattle.audit.specs.Check.{all_say}
use Rattle.audit.proofs.Loops.{gather-first, gather-next, gather-ends}
use Rattle.audit.proofs.tiles.all_say.Goals as goal

pub loop-word-init : goal.loop-word-init
unfolding all_say
loop-word-init c = rw (c.min.ensures, c.to_mem-wanted.ensures) (gather-first c.args.words.now _ c.args.from c.args.end c.requires)

pub loop-word-preserved : goal.loop-word-preserved
loop-word-preserved c = gather-next c.loop-word.invariant c.loop-word-test.true

pub returns : goal.returns
returns c = gather-ends c.loop-word.invariant c.loop-word-test.false
