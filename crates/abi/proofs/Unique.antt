-- What a call leaves fixes its answer, its numbers and its words. So two that meet a promise are equal. This is a result.
use Rattle.common.specs.Kit.{ℕ, ◌≡◌, sym, ◌∙◌, List}
use Rattle.abi.specs.Promise.{Left, left}
use Rattle.abi.specs.declared.answer.Exported.{Exported}

pub left_one : (p : Left) (a b : Exported) (xs ys ws vs : List ℕ) → left a xs ws ≡ p → left b ys vs ≡ p → (a ≡ b) × (xs ≡ ys) × (ws ≡ vs)
left_one p a b xs ys ws vs x y =
    let same : left a xs ws ≡ left b ys vs = x ∙ sym y in
    (λ i. (same i).answer, λ i. (same i).numbers, λ i. (same i).words)
