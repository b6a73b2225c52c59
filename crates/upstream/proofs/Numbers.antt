-- The numbers of pages and blocks: metadata pages, the halves of a block, and the buddy, which upstream finds by turning a bit over.
-- These are results.
use Rattle.common.specs.Kit.{ℕ, suc, ◌+◌, ◌*◌, ◌/◌, ◌%◌, ◌^◌, ◌≤◌, ◌<◌, ◌≡◌, sym, ◌∙◌, ◌⊎◌, inl, inr, by_cases, pow_pos, add-zero, add-one, ℕ_discrete, arith}
use native.Mathlib.Nat.{one-mul}
use lib.Bits.{bit_xor, xor_step, xor_zero_r, xor_self, xor_block}
use Rattle.buddy.specs.Runs.{cell, first, buddy}
use Rattle.buddy.proofs.RunLaws.{first-suc, head_first, buddy-even, buddy-odd, buddy-half, buddy-not}
use Rattle.region.specs.Layout.{meta_pages}
use Rattle.region.specs.Pages.{buddy_of}
use Rattle.refine.proofs.Buddies.{buddy-page, head-mod, mod-head}
use Rattle.refine.proofs.Halves.{high-page}

-- as many as there are 512 pages, or one more
pub meta-pages : (n : ℕ) → ((meta_pages n ≡ n / 512) ⊎ (meta_pages n ≡ 1 + n / 512)) × (0 < n → 0 < meta_pages n)
meta-pages n = (by_cases (ℕ_discrete (n % 512) 0) (λ e. inl (omega arith)) (λ e. inr (omega arith)), λ l. omega arith)

-- page p and order o make a block among n pages
pub record Placed (n p o : ℕ) : Type 0 where
  pub ends : p + 2 ^ o ≤ n
  pub aligned : p % 2 ^ o ≡ 0

pub halves-placed : {n p o : ℕ} → Placed n p (suc o) → Placed n p o × Placed n (p + 2 ^ o) o
halves-placed {n} {p} {o} b =
    let c = cell (suc o) p in
    let is : first (suc o) c ≡ p = head-mod (suc o) p b.aligned in
    let low : first o (c * 2) ≡ p = sym (first-suc o c) ∙ is in
    let high : first o (c * 2 + 1) ≡ p + 2 ^ o = sym (high-page o c) ∙ rw is in
    let size : 2 ^ suc o ≡ 2 ^ o * 2 = omega (arith, add-one o) in (
      record { ends = omega (arith, b.ends); aligned = mod-head o p (rw low at (head_first o (c * 2))) },
      record { ends = omega (arith, b.ends); aligned = mod-head o (p + 2 ^ o) (rw high at (head_first o (c * 2 + 1))) },
    )

-- what upstream asks of a neighbour
pub record Neighbor (o p q : ℕ) : Type 0 where
  pub beside : (q + 2 ^ o ≡ p) ⊎ (q ≡ p + 2 ^ o)
  pub below : q + 2 ^ o ≡ p → q % 2 ^ (o + 1) ≡ 0
  pub above : q ≡ p + 2 ^ o → p % 2 ^ (o + 1) ≡ 0
  pub aligned : q % 2 ^ o ≡ 0

xor-one : (c : ℕ) → bit_xor c 1 ≡ buddy c
xor-one c = xor_step c 1 ∙ rw (xor_zero_r (c / 2)) (by_cases (ℕ_discrete (c % 2) 0)
    (λ e. rw e (omega (arith, buddy-half c, buddy-not c)))
    (λ e. let one : c % 2 ≡ 1 = omega arith in rw one (omega (arith, buddy-half c, buddy-not c))))

xor-run : (o c : ℕ) → bit_xor (first o c) (2 ^ o) ≡ first o (buddy c)
unfolding first
xor-run o c = rw (add-zero (c * 2 ^ o), add-zero (1 * 2 ^ o), one-mul) at (xor_block o c 1 0 0 (pow_pos o) (pow_pos o)) ∙ rw (xor-one c) (omega (arith, xor_self 0))

-- the first pages of a run and its buddy
neighbor-run : (o c : ℕ) → Neighbor o (first o c) (first o (buddy c))
neighbor-run o c = by_cases (ℕ_discrete (c % 2) 0)
    (λ e. let d : c / 2 * 2 ≡ c = omega arith in rw d at (low (c / 2)))
    (λ e. let d : c / 2 * 2 + 1 ≡ c = omega arith in rw d at (high (c / 2)))
  where
    whole : (d : ℕ) → first o (d * 2) % 2 ^ (o + 1) ≡ 0
    whole d = rw (add-one o, ← first-suc o d) (mod-head (suc o) (first (suc o) d) (head_first (suc o) d))

    next : (d : ℕ) → first o (d * 2 + 1) ≡ first o (d * 2) + 2 ^ o
    next d = sym (high-page o d) ∙ rw (first-suc o d)

    low : (d : ℕ) → Neighbor o (first o (d * 2)) (first o (buddy (d * 2)))
    low d = rw (buddy-even d) (record {
      beside = inr (next d);
      below = λ e. absurd (omega (arith, next d, pow_pos o));
      above = λ _. whole d;
      aligned = mod-head o _ (head_first o (d * 2 + 1));
    })

    high : (d : ℕ) → Neighbor o (first o (d * 2 + 1)) (first o (buddy (d * 2 + 1)))
    high d = rw (buddy-odd d) (record {
      beside = inl (sym (next d));
      below = λ _. whole d;
      above = λ e. absurd (omega (arith, next d, pow_pos o));
      aligned = mod-head o _ (head_first o (d * 2));
    })

-- the bit turned over gives our buddy (S11), and that is such a neighbour
xor-buddy : (o c : ℕ) → (bit_xor (first o c) (2 ^ o) ≡ buddy_of o (first o c)) × Neighbor o (first o c) (buddy_of o (first o c))
xor-buddy o c = rw (buddy-page o c) (xor-run o c, neighbor-run o c)

pub buddy-xor : (o p : ℕ) → p % 2 ^ o ≡ 0 → (bit_xor p (2 ^ o) ≡ buddy_of o p) × Neighbor o p (buddy_of o p)
buddy-xor o p e = rw (head-mod o p e) at (xor-buddy o (cell o p))
