-- Each turn pastes one number more.
use Rattle.common.specs.Kit.{◌≡◌, take, take_all, add-one, arith}
use mathlib.Core.List.{append_assoc}
use lib.Seq.{paste-zero, paste-suc}
use Rattle.abi.specs.Record.{with_six}
use Rattle.abi.proofs.record.put_six.Goals as goal

pub loop-i-init : goal.loop-i-init
loop-i-init c = paste-zero c.args.numbers.now c.args.from c.args.six

pub loop-i-preserved : goal.loop-i-preserved
loop-i-preserved c =
    let next = paste-suc c.args.numbers.now c.args.from c.args.six c.loop-i.i 0 (omega arith) (omega arith) in
    rw (add-one, c.loop-i.invariant) next

pub returns : goal.returns
unfolding with_six
returns c =
    let done : c.loop-i.i ≡ 6 = omega arith in
    rw (c.loop-i.invariant, done, take_all 6 c.args.six (omega arith)) (append_assoc (take c.args.from c.args.numbers.now) c.args.six _)
