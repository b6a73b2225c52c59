-- Each turn reads one number more.
use Rattle.common.specs.Kit.{◌<◌, ◌≡◌, refl, ◌∙◌, length, drop, replicate, length-set, length-drop, zero-add, add-one, arith}
use mathlib.Core.List.{append-nil}
use lib.Seq.{paste-suc, get_or-drop}
use Rattle.abi.specs.Record.{six_from}
use Rattle.abi.proofs.record.six.Goals as goal

pub loop-i-init : goal.loop-i-init
loop-i-init c = (refl, refl)

pub loop-i-preserved : goal.loop-i-preserved
loop-i-preserved c =
    let l = c.loop-i in
    let rest = drop c.args.from c.args.numbers.now in
    let more : l.i < length rest = rw length-drop (omega arith) in
    let next = simp zero-add at (paste-suc (replicate 6 0) 0 rest l.i 0 (omega arith) more) in
    (length-set l.six _ _ ∙ l.invariant.0, rw (add-one, l.invariant.1, ← get_or-drop) next)

pub returns : goal.returns
unfolding six_from
returns c =
    let done : c.loop-i.i ≡ 6 = omega arith in
    rw (c.loop-i.invariant.1, done) (append-nil _)
