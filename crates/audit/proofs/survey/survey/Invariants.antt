-- Up to the page that it has come to, all is as it should be.
use Rattle.common.specs.Kit.{◌-◌, ◌≤◌}
use Rattle.std.specs.Prelude.{unwrap_or}
use Rattle.buddy.specs.Rules.{span}
use Rattle.pages.specs.Meaning.{no_order}
use Rattle.audit.proofs.Walk.{Walk}
use Rattle.audit.proofs.survey.survey.Given as goal

abbrev pub invariant-loop-pfn : goal.invariant-loop-pfn
invariant-loop-pfn l =
    let m = l.pages in
    (m.from ≤ l.pfn) × Walk m.words.now (span m.from m.end) m.end l.fn.heads l.found (unwrap_or l.before no_order) l.pfn

abbrev pub decreases-loop-pfn : goal.decreases-loop-pfn
decreases-loop-pfn l = l.pages.end - l.pfn
