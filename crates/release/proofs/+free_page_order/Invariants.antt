-- The measure is 5 less the order.
use Rattle.common.specs.Kit.{◌-◌}
use Rattle.release.proofs.+free_page_order.Given as goal

abbrev pub decreases-free_page_order : goal.decreases-free_page_order
decreases-free_page_order l = 5 - l.order
