-- `order_of` is the least order whose block holds the size, and there is one such order.
use Rattle.common.specs.Kit.{ℕ, zero, suc, ◌+◌, ◌-◌, ◌*◌, ◌/◌, ◌^◌, ◌≤◌, ◌<◌, ◌≡◌, subst, leb, ltb, pow_mono, add-zero, pow-suc, arith, ltb-true, ltb-false, leb-true, leb-false}
use lib.Count.{count_leading_zeros, leading_length}
use borrow.Author.Count.{below_more}
use Rattle.common.proofs.Tests.{by-test}
use Rattle.words.specs.Order.{block_bytes, LeastOrder, order_from, order_of}

pub block-mono : {a b : ℕ} → a ≤ b → block_bytes a ≤ block_bytes b
block-mono {a} {b} h = omega (arith, pow_mono h)

from : (n o s : ℕ) → s ≤ block_bytes (o + n) → ((k : ℕ) → k < o → block_bytes k < s) → LeastOrder s (order_from n o s)
unfolding order_from
from zero o s h b = record { holds = rw add-zero at h; least = b }
from (suc n) o s h b =
    by-test (leb s (block_bytes o))
    (λ t. rw t (record { holds = leb-true _ _ t; least = b }))
    (λ t. rw t (from n (o + 1) s
    (subst (λ (k : ℕ). s ≤ block_bytes k) (let e : o + suc n ≡ o + 1 + n = omega arith in e) h)
    (below_more (λ (k : ℕ). block_bytes k < s) o b (leb-false _ _ t))))

-- every size below 2^64 has one
pub order_least : (s : ℕ) → s ≤ 2 ^ 64 → LeastOrder s (order_of s)
order_least s h = from 52 0 s h (λ k l. absurd (omega arith))

pub least-unique : (s a b : ℕ) → LeastOrder s a → LeastOrder s b → a ≡ b
least-unique s a b p q =
    by-test (ltb a b)
    (λ t. absurd (let l : block_bytes a < s = q.least a (ltb-true _ _ t) in let h = p.holds in omega arith))
    (λ t. by-test (ltb b a)
    (λ u. absurd (let l : block_bytes b < s = p.least b (ltb-true _ _ u) in let h = q.holds in omega arith))
    (λ u. omega (arith, ltb-false a b t, ltb-false b a u)))

-- sizes above 2^63 have order 52
pub order-top : (s : ℕ) → 2 ^ 63 < s → s ≤ 2 ^ 64 → order_of s ≡ 52
order-top s h b =
    least-unique s _ 52 (order_least s b) (record { holds = b; least = λ k l. omega (arith, block-mono {a = k} {b = 51} (omega arith)) })

-- The least order is the length in binary digits of the page of the last byte, counted from 0.
length-least : (s q m : ℕ) → 0 < s → q ≡ (s - 1) / 4096 → q < 2 ^ m → 2 ^ m ≤ 2 * q + 1 → LeastOrder s m
length-least s q m p e h l =
    record { holds = omega arith; least = λ k b. omega (arith, pow-suc 2 k, pow_mono {i = suc k} {j = m} b) }

-- so it is what the leading zeros of that page leave of any width that holds it
pub order-zeros : (w s q : ℕ) → 0 < s → s ≤ 2 ^ 64 → q ≡ (s - 1) / 4096 → q < 2 ^ w → w - count_leading_zeros w q ≡ order_of s
order-zeros w s q p b e h =
    let l = leading_length w q h in
    least-unique s _ _
    (subst (λ (m : ℕ). LeastOrder s m) (omega (arith, l.1)) (length-least s q l.0 p e l.2 l.3))
    (order_least s b)
