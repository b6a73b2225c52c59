use Rattle.common.specs.Kit.{◌-◌, ◌+◌, ◌≡◌, length, take, drop, arith, rules}
use Rattle.pages.proofs.Fill.{fill-between}
use Rattle.pages.proofs.fill_words.Goals as goal

pub returns : goal.returns
returns c =
    let k : c.args.from + c.args.count - c.args.from ≡ c.args.count = omega arith in
    let n : length (take c.args.count (drop c.args.from c.args.words.now)) ≡ c.args.count = search rules in
    rw (c.fill.ensures.after (λ y e. e), k, n, c.to_mem.ensures) (fill-between c.args.from _ c.args.count c.args.words.now c.requires)
