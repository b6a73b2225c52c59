-- What the whole word says is what the digits that are left say after those that are read.
use Rattle.common.specs.Kit.{◌^◌, ◌<◌, ◌≡◌, drop}
use Rattle.parse.specs.Line.{number_of}
use Rattle.parse.proofs.Numbers.{number_from}
use Rattle.parse.proofs.input.digits.Given as goal

abbrev pub invariant-loop-b : goal.invariant-loop-b
invariant-loop-b l = (l.n < 2 ^ 64) × (number_of l.base l.longest l.word ≡ number_from l.base l.n (drop l.b-index l.word))
