-- A page that lies in a block and heads an order starts a block of that order: what upstream cuts out of its set of permissions.
use Rattle.common.specs.Kit.{ℕ, ◌<◌, sym, ap, subst, by_cases, Bool, List, ℕ_discrete, arith}
use Rattle.pages.specs.Said.{said}
use Rattle.pages.specs.Meaning.{head_order}
use Rattle.region.specs.Pages.{Block, InBlock}

pub head-block : {ws : List ℕ} {M : ℕ → Bool} {p : ℕ} → InBlock ws M p → head_order (said ws p) < 6 → Block ws M p (head_order (said ws p))
head-block {ws} {M} {p} i h = by_cases (ℕ_discrete i.page p)
    (λ q. subst (λ n. Block ws M n (head_order (said ws n))) q (subst (Block ws M i.page) (sym i.block.head) i.block))
    (λ n. absurd (omega (arith, i.low, ap head_order (i.block.rest.each p (omega (arith, i.low)) i.high))))
