-- The block totals add up to the managed pages, each count times its block's size. A page weighs the size of the block that it heads; page by
-- page, the weights so far are the managed pages so far and what is left of the block begun last.
use Rattle.common.specs.Kit.{ℕ, zero, suc, ◌+◌, ◌^◌, ◌<◌, ◌≡◌, refl, sym, ◌∙◌, ◌≢◌, by_cases, Bool, T, ℕ_discrete, dec_lt, arith}
use Rattle.common.specs.Numbers.{one, count}
use Rattle.common.proofs.Tests.{by-test, T_true}
use Rattle.buddy.specs.Runs.{cell, start, Head}
use Rattle.buddy.specs.Heap.{Tag, Block, Tiled, heads, Heap, Core}
use Rattle.buddy.specs.Demand.{pages_in}
use Rattle.buddy.proofs.RunLaws.{start-le, lt-end, cell-between}
use Rattle.buddy.proofs.Blocks.{heads-yes, heads-no}
use Rattle.buddy.proofs.Clear.{order_small}

pub pages-same : (f g : ℕ → ℕ) (k : ℕ) → ((o : ℕ) → o < k → f o ≡ g o) → pages_in f k ≡ pages_in g k
unfolding pages_in
pages-same f g zero e = refl
pages-same f g (suc k) e = rw (pages-same f g k (λ o l. e o (omega arith)), e k (omega arith))

pages-none : (f : ℕ → ℕ) (k : ℕ) → ((o : ℕ) → o < k → f o ≡ 0) → pages_in f k ≡ 0
unfolding pages_in
pages-none f zero e = refl
pages-none f (suc k) e = rw (pages-none f k (λ o l. e o (omega arith)), e k (omega arith)) (omega arith)

pages-one : (f : ℕ → ℕ) (k i : ℕ) → i < k → f i ≡ 1 → ((o : ℕ) → o ≢ i → f o ≡ 0) → pages_in f k ≡ 2 ^ i
unfolding pages_in
pages-one f zero i l a b = absurd (omega arith)
pages-one f (suc k) i l a b = by_cases (ℕ_discrete i k)
    (λ e. rw (pages-none f k (λ o m. b o (omega arith)), ← e, a) (omega arith))
    (λ e. rw (pages-one f k i (omega arith) a b, b k (λ x. e (sym x))) (omega arith))

pages-add : (f g : ℕ → ℕ) (k : ℕ) → pages_in (λ o. f o + g o) k ≡ pages_in f k + pages_in g k
unfolding pages_in
pages-add f g zero = refl
pages-add f g (suc k) = omega (arith, pages-add f g k)

sum_below : (ℕ → ℕ) → ℕ → ℕ
sum_below w zero = 0
sum_below w (suc n) = sum_below w n + w n

-- summed by orders or by pages
pages-swap : (t : ℕ → ℕ → Bool) (n k : ℕ) → pages_in (λ o. count (t o) n) k ≡ sum_below (λ p. pages_in (λ o. one (t o p)) k) n
unfolding count sum_below
pages-swap t zero k = pages-none _ k (λ o _. refl)
pages-swap t (suc n) k = pages-add (λ o. count (t o) n) (λ o. one (t o n)) k ∙ rw (pages-swap t n k)

module _ (M : ℕ → Bool) (at : ℕ → Tag) (tiled : Tiled M at) where
  weight : ℕ → ℕ
  weight p = pages_in (λ o. one (heads M at o p)) 6

  weight-head : (p : ℕ) → T (M p) → Head (at p).order p → weight p ≡ 2 ^ (at p).order
  unfolding weight
  weight-head p m h = pages-one _ 6 (at p).order (omega (arith, order_small M at tiled p m))
      (rw (heads-yes M at (at p).order p m refl h))
      (λ o e. rw (heads-no M at o p (λ _ x _. e (sym x))))

  weight-none : (p : ℕ) → (T (M p) → Head (at p).order p → ⊥) → weight p ≡ 0
  unfolding weight
  weight-none p e = pages-none _ 6 (λ o _. rw (heads-no M at o p (λ m x h. e m (rw x h))))

  -- page n begins a block or lies in none; or it lies in one that began before
  data At (n : ℕ) : Type 0 where
    edge : sum_below weight n ≡ count M n → (T (M n) → Head (at n).order n) → At n
    inside : T (M n) → start (at n).order n < n → sum_below weight n + n ≡ count M n + (start (at n).order n + 2 ^ (at n).order) → At n

  -- page n's block does not reach page n + 1
  pub next-head : (n : ℕ) → (T (M n) → cell (at n).order (suc n) ≢ cell (at n).order n) → T (M (suc n)) → Head (at (suc n)).order (suc n)
  next-head n apart m = by_cases (ℕ_discrete (start o (suc n)) (suc n))
      (λ e. e)
      (λ e. absurd (apart (b.inside n (near e)) (rw (b.same n (near e)) (sym (near e)))))
    where
      o : ℕ
      o = (at (suc n)).order

      b : Block M at (suc n)
      b = tiled (suc n) m

      near : start o (suc n) ≢ suc n → cell o n ≡ cell o (suc n)
      near e = cell-between o (suc n) n (omega (arith, start-le o (suc n))) (omega (arith, lt-end o (suc n)))

  -- the page after page n, which is managed
  at_next : (n : ℕ) → T (M n) → sum_below weight (suc n) + n ≡ count M n + (start (at n).order n + 2 ^ (at n).order)
      → count M (suc n) ≡ count M n + 1 → At (suc n)
  at_next n m s c = by_cases (dec_lt (suc n) (start o n + 2 ^ o))
      (λ l. inside (b.inside _ (near l))
      (rw (b.same _ (near l), near l) (omega (arith, start-le o n)))
      (rw (b.same _ (near l), near l) (omega arith)))
      (λ l. edge (omega (arith, lt-end o n)) (next-head n (λ _ e. l (rw e at (lt-end o (suc n))))))
    where
      o : ℕ
      o = (at n).order

      b : Block M at n
      b = tiled n m

      near : suc n < start o n + 2 ^ o → cell o (suc n) ≡ cell o n
      near l = cell-between o n (suc n) (omega (arith, start-le o n)) l

  at-page : (n : ℕ) → At n
  unfolding sum_below count
  at-page zero = edge refl (λ m. omega (arith, start-le (at 0).order 0))
  at-page (suc n) = go (at-page n)
    where
      go : At n → At (suc n)
      go (edge s h) = by-test (M n)
          (λ e. let m : T (M n) = rw e tt in at_next n m (rw (weight-head n m (h m)) (omega (arith, h m))) (rw e))
          (λ e. edge (rw (weight-none n (λ t _. rw e at t), e) (omega arith)) (next-head n (λ t. absurd (rw e at t))))
      go (inside m l s) = at_next n m (rw (weight-none n (λ _ h. omega arith)) (omega arith)) (rw (T_true (M n) m))

pub totals : (M : ℕ → Bool) (n : ℕ) → ((p : ℕ) → T (M p) → p < n) → (h : Heap) → Core M n h → pages_in h.blocks 6 ≡ count M n
unfolding weight
totals M n bound h k = pages-same _ _ 6 (λ o l. k.counted o (omega arith))
    ∙ pages-swap (heads M h.at) n 6
    ∙ at-end (at-page M h.at k.tiled n)
  where
    at-end : At M h.at k.tiled n → sum_below (weight M h.at k.tiled) n ≡ count M n
    at-end (edge s _) = s
    at-end (inside m _ _) = absurd (omega (arith, bound n m))
