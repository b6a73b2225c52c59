-- What is left to split, from `ord` on, gives the state that is asked for, and is safe.
use Rattle.common.specs.Kit.{◌-◌, ◌≡◌}
use Rattle.region.specs.State.{st}
use Rattle.region.specs.Steps.{split_down, DownOk}
use Rattle.grant.proofs.split_down.Given as goal

abbrev pub invariant-loop-ord : goal.invariant-loop-ord
invariant-loop-ord l =
    DownOk l.order (l.ord - l.order) (st l.rest l.words)
    × (split_down l.order (l.from - l.order) (st l.initial.rest l.initial.words) ≡ split_down l.order (l.ord - l.order) (st l.rest l.words))
