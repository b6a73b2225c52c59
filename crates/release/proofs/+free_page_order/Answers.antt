-- What trying leaves picks the step of `free_from`.
use Rattle.common.specs.Kit.{arith}
use Rattle.release.proofs.Joins.{ok_step, stays, goes}
use Rattle.release.proofs.+free_page_order.Goals as goal

pub try_to_merge_page-tried-requires : goal.try_to_merge_page-tried-requires
try_to_merge_page-tried-requires t c = (ok_step _ _ _ c.requires).0

pub free_page_raw-requires : goal.free_page_raw-requires
free_page_raw-requires t c = (stays _ _ _ c.try_to_merge_page-tried.ensures c.in_default.is).ok c.requires

pub returns-in_default : goal.returns-in_default
returns-in_default t c = rw (stays _ _ _ c.try_to_merge_page-tried.ensures c.in_default.is).freed c.free_page_raw.ensures

pub overflow_add-order : goal.overflow_add-order
overflow_add-order t c = omega (arith, (goes _ _ _ c.try_to_merge_page-tried.ensures c.in-Some.is).small)

pub free_page_order-requires : goal.free_page_order-requires
free_page_order-requires t c =
    let g = goes _ _ _ c.try_to_merge_page-tried.ensures c.in-Some.is in
    (omega (arith, g.small, c.decreases), g.ok c.requires)

pub returns : goal.returns
returns t c = rw (goes _ _ _ c.try_to_merge_page-tried.ensures c.in-Some.is).freed c.free_page_order.ensures
