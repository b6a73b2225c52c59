-- The first `i` of the six are pasted in.
use Rattle.common.specs.Kit.{◌≡◌}
use lib.Seq.{paste}
use Rattle.abi.proofs.record.put_six.Given as goal

abbrev pub invariant-loop-i : goal.invariant-loop-i
invariant-loop-i l = l.numbers ≡ paste l.initial.numbers l.from l.six l.i
