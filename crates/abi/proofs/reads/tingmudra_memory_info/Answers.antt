-- Both lengths and the answer pick the case of `report_left`.
use Rattle.common.specs.Kit.{◌≡◌, ap, eq-eqb, length, rules}
use Rattle.abi.specs.Promise.{reported}
use Rattle.abi.proofs.Packed.{reports}
use Rattle.abi.proofs.reads.tingmudra_memory_info.Goals as goal

pub returns-in-Ok : goal.returns-in-Ok
returns-in-Ok c =
    let long : length c.args.report.now ≡ 12 = search rules in
    let is : length c.args.numbers.now ≡ 21 = search rules in
    let same : c.in-Some.record.now ≡ c.args.numbers.now = search rules in
    let lent : c.in-Some-as_mut_array.report.now ≡ c.args.report.now = search rules in
    let told = rw (c.load.ensures, same) at c.in-Ok.ensures in
    let free = rw lent at c.put_six.ensures in
    simp (eq-eqb _ 21 is, eq-eqb _ 12 long, ← told, c.from-in-Ok.ensures, c.from.ensures)
    (ap (reported _) (reports _ _ _ _ _ long free c.put_six-in-Ok.ensures))
