-- For size 0 by computation, for the others by the law on leading zeros.
use Rattle.common.specs.Kit.{refl, arith}
use Rattle.words.specs.Order.{order_from}
use Rattle.words.proofs.OrderLaws.{order-zeros}
use Rattle.words.proofs.order.get_order.Goals as goal

pub returns-then-size-eq0 : goal.returns-then-size-eq0
unfolding order_from
returns-then-size-eq0 c = rw c.if-size-eq0.true refl

pub returns : goal.returns
returns c = order-zeros _ c.args.size _ (omega arith) (omega arith) (omega arith) (omega arith)
