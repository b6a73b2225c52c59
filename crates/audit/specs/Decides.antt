-- When a test decides a question.
use Rattle.std.specs.Prelude.{◌≡◌, Bool, true}

-- b is the answer to P, both ways
pub record Decides (b : Bool) (P : Type 0) : Type 0 where
  pub yes : b ≡ true → P
  pub back : P → b ≡ true
