-- A fill leaves the words before it and those after it, and what it writes stands between them.
use Rattle.common.specs.Kit.{ℕ, zero, suc, ◌+◌, ◌≤◌, ◌≡◌, refl, sym, ap, ◌∙◌, List, [], ◌∷◌, ◌++◌, length, take, drop, replicate, zero-add, suc-add, arith}
use Rattle.pages.specs.Fill.{fill}

fill-cons : (q v k w : ℕ) (ws : List ℕ) → fill (suc q) v k (w ∷ ws) ≡ w ∷ fill q v k ws
unfolding fill
fill-cons q v zero w ws = refl
fill-cons q v (suc k) w ws = rw (fill-cons q v k w ws, suc-add) refl

fill-first : (v k w : ℕ) (ws : List ℕ) → fill 0 v (suc k) (w ∷ ws) ≡ v ∷ fill 0 v k ws
unfolding fill
fill-first v zero w ws = refl
fill-first v (suc k) w ws = rw (fill-first v k w ws, zero-add k, zero-add (suc k)) refl

fill-start : (v k : ℕ) (ws : List ℕ) → k ≤ length ws → replicate k v ++ drop k ws ≡ fill 0 v k ws
unfolding fill
fill-start v zero ws h = refl
fill-start v (suc k) [] h = absurd (omega arith)
fill-start v (suc k) (w ∷ ws) h = ap (λ l. v ∷ l) (fill-start v k ws (omega arith)) ∙ sym (fill-first v k w ws)

pub fill-between : (q v k : ℕ) (ws : List ℕ) → q + k ≤ length ws → take q ws ++ (replicate k v ++ drop k (drop q ws)) ≡ fill q v k ws
fill-between zero v k ws h = fill-start v k ws (omega arith)
fill-between (suc q) v k [] h = absurd (omega arith)
fill-between (suc q) v k (w ∷ ws) h = ap (λ l. w ∷ l) (fill-between q v k ws (omega arith)) ∙ sym (fill-cons q v k w ws)
