-- The first `i` numbers are those from the place on.
use Rattle.common.specs.Kit.{◌≡◌, ◌++◌, length, take, drop, replicate}
use Rattle.abi.proofs.record.six.Given as goal

abbrev pub invariant-loop-i : goal.invariant-loop-i
invariant-loop-i l = (length l.six ≡ 6) × (l.six ≡ take l.i (drop l.from l.numbers) ++ drop l.i (replicate 6 0))
