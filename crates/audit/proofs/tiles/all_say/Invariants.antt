-- No other word so far, and the words that are left of the run, have the answer.
use Rattle.common.specs.Kit.{length, get_or}
use Rattle.audit.specs.Check.{all_say}
use Rattle.audit.proofs.Loops.{Gathered}
use Rattle.audit.proofs.tiles.all_say.Given as goal

abbrev pub invariant-loop-word : goal.invariant-loop-word
invariant-loop-word l = Gathered (λ p. get_or l.word-items p 0) l.wanted (length l.word-items) l.word-index l.others (all_say l.words l.from l.end l.fn.info)
