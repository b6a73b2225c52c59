-- The pages from one up to another, as a test.
use Rattle.common.specs.Kit.{ℕ, ◌≤◌, ◌<◌, ◌≡◌, ◌∙◌, by_cases, true, false, ◌||◌, T, leb, ltb, dec_lt, arith}
use mathlib.Core.Bool.{or-false}
use lib.Dec.{leb→le, ltb→lt, le→leb, lt→ltb}
use Rattle.common.proofs.Tests.{T_false, T_true, T_and, and_T, bool_iff}
use Rattle.buddy.specs.Rules.{span}

pub T-span : (a e p : ℕ) → T (span a e p) → (a ≤ p) × (p < e)
unfolding span
T-span a e p t = let x = T_and (leb a p) (ltb p e) t in (leb→le a p x.0, ltb→lt p e x.1)

pub span-T : (a e p : ℕ) → a ≤ p → p < e → T (span a e p)
unfolding span
span-T a e p x y = and_T (leb a p) (ltb p e) (le→leb a p x) (lt→ltb p e y)

pub span-in : (a e p : ℕ) → a ≤ p → p < e → span a e p ≡ true
span-in a e p x y = T_true _ (span-T a e p x y)

pub span-out : (a e p : ℕ) → (a ≤ p → p < e → ⊥) → span a e p ≡ false
span-out a e p out = T_false _ (λ t. let x = T-span a e p t in out x.0 x.1)

pub span_same : (a e p b f q : ℕ) → ((a ≤ p) × (p < e) → (b ≤ q) × (q < f)) → ((b ≤ q) × (q < f) → (a ≤ p) × (p < e)) → span a e p ≡ span b f q
span_same a e p b f q to from = bool_iff _ _
    (λ t. let x = to (T-span a e p t) in span-T b f q x.0 x.1)
    (λ t. let x = from (T-span b f q t) in span-T a e p x.0 x.1)

-- two spans that meet
pub span-glue : (a b e p : ℕ) → a ≤ b → b ≤ e → (span a b p || span b e p) ≡ span a e p
span-glue a b e p x y = by_cases (dec_lt p b)
    (λ l. rw (span-out b e p (omega arith)) (or-false (span a b p) ∙ span_same a b p a e p (omega arith) (omega arith)))
    (λ l. rw (span-out a b p (omega arith)) (span_same b e p a e p (omega arith) (omega arith)))
