-- The parts are written from the end on, and then the first three numbers.
use Rattle.common.specs.Kit.{arith}
use Rattle.abi.proofs.Packed.{stored}
use Rattle.abi.proofs.record.store.Goals as goal

pub returns : goal.returns
returns c =
    stored _ _ _ _ _ (omega arith) (omega arith) (omega arith) (omega arith)
    c.put_six.ensures c.put_six-2.ensures c.put_six-3.ensures
