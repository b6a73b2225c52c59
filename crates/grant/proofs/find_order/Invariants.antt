-- The lowest list from `order` on is the lowest from `ord` on. The measure is the orders left.
use Rattle.common.specs.Kit.{◌-◌, ◌≤◌, ◌≡◌}
use Rattle.region.specs.Steps.{lowest_from}
use Rattle.grant.proofs.find_order.Given as goal

abbrev pub invariant-loop-ord : goal.invariant-loop-ord
invariant-loop-ord l = (l.ord ≤ 6) × (lowest_from (6 - l.order) l.order l.heads ≡ lowest_from (6 - l.ord) l.ord l.heads)

abbrev pub decreases-loop-ord : goal.decreases-loop-ord
decreases-loop-ord l = 6 - l.ord
