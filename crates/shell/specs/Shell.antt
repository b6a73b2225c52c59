-- The shell from line to line: the record, and the buffer, of which the first words are lent. After a line they are those that its request leaves.
use Rattle.std.specs.Prelude.{ℕ, cond, List, ◌++◌, leb, length, take, drop, replicate}
use Rattle.std.specs.Prelude.{min}
use Rattle.region.specs.declared.HeapMemoryRegion.{HeapMemoryRegion}
use Rattle.parse.specs.Line.{parsed}
use Rattle.shell.specs.Request.{acted}
use Rattle.shell.specs.declared.steps.Reply.{Reply}
use Rattle.shell.specs.declared.steps.Reply.TheVariants.{Line, Lent, Text}

pub record Held : Type 0 where
  pub region : HeapMemoryRegion
  pub lent : ℕ
  pub buffer : List ℕ

abbrev pub held : HeapMemoryRegion → ℕ → List ℕ → Held
held r n ws = record { region = r; lent = n; buffer = ws }

-- n words are lent, all Reserved, or as many as the buffer has
abbrev pub lends : HeapMemoryRegion → ℕ → List ℕ → Held
lends r n ws = let k = min n (length ws) in held r k (replicate k 15 ++ drop k ws)

-- the lent words that a request left, before the others
abbrev pub settled : HeapMemoryRegion → ℕ → List ℕ → Reply → Held
settled r n ws (Line l) = held r n ws
settled r n ws (Lent k) = lends r k ws
settled r n ws (Text kind) = held r n ws

-- what a line leaves. A shell that lends more than its buffer has does nothing
unfoldable pub answered : HeapMemoryRegion → ℕ → List ℕ → List ℕ → Held
answered r n ws text =
    cond (leb n (length ws))
    (let x = acted r (take n ws) (parsed text) in settled x.region n (x.words ++ drop n ws) x.reply)
    (held r n ws)
