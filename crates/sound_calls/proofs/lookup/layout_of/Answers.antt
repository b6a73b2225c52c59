-- An order below 6 makes no size that wraps.
use Rattle.common.specs.Kit.{pow_mono, arith, rules}
use Rattle.sound_calls.proofs.lookup.layout_of.Goals as goal

pub size-requires : goal.size-requires
size-requires c = c.requires.order c.in-Some-Allocated.ai.order (search rules)

pub overflow_mul-result : goal.overflow_mul-result
overflow_mul-result c =
    let small = c.requires.order c.in-Some-Allocated.ai.order (search rules) in
    omega (arith, c.size.ensures, pow_mono {i = c.in-Some-Allocated.ai.order} {j = 5} (omega (arith, small)))
