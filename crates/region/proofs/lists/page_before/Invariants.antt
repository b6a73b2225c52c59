-- What is left of the walk is safe, and finds what the whole walk finds.
use Rattle.common.specs.Kit.{◌-◌, ◌≡◌}
use Rattle.region.specs.State.{WalkOk, page_before}
use Rattle.region.proofs.lists.page_before.Given as goal

abbrev pub invariant-loop : goal.invariant-loop
invariant-loop l =
    let left = l.count - l.counter in
    WalkOk left l.old_pfn l.pfn l.words × (page_before l.count l.first l.pfn l.words ≡ page_before left l.old_pfn l.pfn l.words)
