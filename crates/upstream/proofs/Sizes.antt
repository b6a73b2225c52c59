-- How many blocks there can be: with their sizes they fill no more than the managed pages, since every block ends inside them. Upstream's
-- bounds allow one block beyond the end. These are results.
use Rattle.common.specs.Kit.{ℕ, zero, suc, ◌+◌, ◌*◌, ◌^◌, ◌≤◌, ◌<◌, ◌≡◌, refl, sym, ◌≢◌, by_cases, Bool, false, List, [], ◌∷◌, Memᴰ, mem-head, mem-tail, T, length, pow_pos, pow_mono, ℕ_discrete, dec_le, arith}
use native.Mathlib.Nat.{mul-le-mul_left, mul-le-mul_right, le-mul_of_pos_right}
use Rattle.common.specs.Numbers.{update, Once, one, count}
use Rattle.common.proofs.Tests.{T_true}
use Rattle.common.proofs.Lists.{update_same, update_other}
use Rattle.common.proofs.Counts.{no-count, count_at}
use Rattle.buddy.specs.Heap.{Heap, Core, heads}
use Rattle.buddy.specs.Demand.{pages_in}
use Rattle.buddy.proofs.Tags.{order-of}
use Rattle.buddy.proofs.Blocks.{heads-yes, heads-no}
use Rattle.buddy.proofs.Paint.{BlockOut}
use Rattle.buddy.proofs.Clear.{order_small}
use Rattle.buddy.proofs.Steps.{push-core}
use Rattle.buddy.proofs.Totals.{totals}
use Rattle.buddy.proofs.Refill.{push-head}

-- numbers below n that pass a test, each once
once-most : (n : ℕ) (f : ℕ → Bool) (l : List ℕ) → Once l → ((p : ℕ) → Memᴰ p l → T (f p) × (p < n)) → length l ≤ count f n
once-most n f [] u is = omega arith
once-most n f (x ∷ l) u is =
    let here = is x (mem-head refl) in
    let changed : count f n + one (update f x false x) ≡ count (update f x false) n + one (f x) =
    count_at f (update f x false) x n here.1 (λ p k. sym (update_other f x false p k)) in
    let rest = once-most n (update f x false) l u.1 (λ p m.
    let k : p ≢ x = λ e. u.0 (rw e at m) in
    let b = is p (mem-tail m) in
    (rw (update_other f x false p k) b.0, b.1)) in
    omega (arith, rest, rw (update_same f x false x refl, T_true (f x) here.0) at changed)

-- the blocks of one order and of two, with their sizes
pages-of : (f : ℕ → ℕ) (k i : ℕ) → i < k → f i * 2 ^ i ≤ pages_in f k
unfolding pages_in
pages-of f zero i l = absurd (omega arith)
pages-of f (suc k) i l = by_cases (ℕ_discrete i k) (λ e. rw e (omega arith)) (λ e. omega (arith, pages-of f k i (omega arith)))

pages-of-two : (f : ℕ → ℕ) (k i j : ℕ) → i < j → j < k → f i * 2 ^ i + f j * 2 ^ j ≤ pages_in f k
unfolding pages_in
pages-of-two f zero i j l s = absurd (omega arith)
pages-of-two f (suc k) i j l s = by_cases (ℕ_discrete j k)
    (λ e. rw e (omega (arith, pages-of f k i (omega arith))))
    (λ e. omega (arith, pages-of-two f k i j l (omega arith)))

module _ {M : ℕ → Bool} {n : ℕ} (bound : (p : ℕ) → T (M p) → p < n) {h : Heap} (k : Core M n h) where
  -- above order 5 there are none
  none_above : (o : ℕ) → 5 < o → count (heads M h.at o) n ≡ 0
  none_above o l = no-count _ n (λ p. heads-no M h.at o p (λ m e _. omega (arith, order_small M h.at k.tiled p m)))

  -- the blocks of any one order, with their size and without; up to order 5 they are as many as the heap says (`Core.counted`)
  pub blocks-fit : (o : ℕ) → (count (heads M h.at o) n * 2 ^ o ≤ count M n) × (count (heads M h.at o) n ≤ count M n)
  blocks-fit o = by_cases (dec_le o 5)
      (λ l.
      let sized : h.blocks o * 2 ^ o ≤ count M n = omega (arith, totals M n bound h k, pages-of h.blocks 6 o (omega arith)) in
      rw (← k.counted o l) (sized, omega (arith, le-mul_of_pos_right (h.blocks o) (pow_pos o))))
      (λ l. rw (none_above o (omega arith)) (omega arith, omega arith))

  -- and of two orders
  pub pair_fits : (i j : ℕ) → i < j → count (heads M h.at i) n + count (heads M h.at j) n * 2 ≤ count M n
  pair_fits i j l = by_cases (dec_le j 5)
      (λ s. rw (← k.counted i (omega arith), ← k.counted j s) (omega (
        arith,
        totals M n bound h k,
        pages-of-two h.blocks 6 i j l (omega arith),
        le-mul_of_pos_right (h.blocks i) (pow_pos i),
        mul-le-mul_left (h.blocks j) (pow_mono {i = 1} {j = j} (omega arith)),
      )))
      (λ s. rw (none_above j (omega arith)) (omega (arith, (blocks-fit i).1)))

  -- the free blocks of one order
  pub list-fits : (o : ℕ) → o ≤ 5 → (length (h.list o) * 2 ^ o ≤ count M n) × (length (h.list o) ≤ count M n)
  list-fits o l =
      let ls = k.listed o l in
      let some : length (h.list o) ≤ count (heads M h.at o) n = once-most n _ (h.list o) ls.once (λ p m.
      let f = ls.sound p m in
      (rw (heads-yes M h.at o p f.managed (order-of f.is) f.head) tt, bound p f.managed)) in
      let b = blocks-fit o in
      (omega (arith, mul-le-mul_right (2 ^ o) some), omega arith)

-- before a block out is put on its list, there is room for it
pub push-fits : {M : ℕ → Bool} {n : ℕ} → ((p : ℕ) → T (M p) → p < n) → {h : Heap} → Core M n h → (o c : ℕ) → o ≤ 5 → BlockOut M h.at o c
    → (length (h.list o) * 2 ^ o < count M n) × (length (h.list o) < count M n)
push-fits bound {h} k o c l out =
    let b = rw (push-head h o c) at (list-fits bound (push-core k l out) o l) in
    (omega (arith, pow_pos o), omega arith)
