-- The audit decides what is sound.
use Rattle.common.specs.Kit.{sym, ◌∙◌}
use Rattle.audit.proofs.Sound.{sound-decides}
use Rattle.heap.proofs.reads.audit.Goals as goal

pub returns-then-audit-clause-sound : goal.returns-then-audit-clause-sound
returns-then-audit-clause-sound c = search ((sound-decides c.args.region c.args.words.now).yes (sym c.audit.ensures ∙ c.if-audit.true))
