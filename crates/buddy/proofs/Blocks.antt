-- Blocks are counted at their heads: what painting a run, a split or a merge does to the number of blocks of each order.
use Rattle.common.specs.Kit.{ℕ, suc, ◌+◌, ◌*◌, ◌<◌, ◌≡◌, sym, ◌∙◌, ◌≢◌, by_cases, Bool, true, false, T, eqb, eqb→eq, ℕ_discrete, arith, eq-eqb}
use Rattle.common.specs.Numbers.{one, count}
use Rattle.common.proofs.Tests.{T_true, T_false, T_and}
use Rattle.common.proofs.Counts.{count_same, count_at, count-two}
use Rattle.buddy.specs.Runs.{cell, first, start, Head}
use Rattle.buddy.specs.Heap.{Tag, heads}
use Rattle.buddy.specs.Steps.{paint}
use Rattle.buddy.proofs.RunLaws.{cell-first, first-inj, first-suc, cell-low, cell-high, cell_halves, head_first, head-is}
use Rattle.buddy.proofs.Paint.{paint-order, Cut}

module _ (M : ℕ → Bool) (at : ℕ → Tag) (o p : ℕ) where
  pub heads-yes : T (M p) → (at p).order ≡ o → Head o p → heads M at o p ≡ true
  heads-yes m e h = rw (T_true (M p) m, eq-eqb (at p).order o e, eq-eqb (start o p) p h)

  pub heads-no : (T (M p) → (at p).order ≡ o → Head o p → ⊥) → heads M at o p ≡ false
  heads-no none = T_false _ (λ t.
      let a = T_and (M p) _ t in
      let b = T_and (eqb (at p).order o) _ a.1 in
      none a.0 (eqb→eq _ _ b.0) (eqb→eq _ _ b.1))

heads-same : (M : ℕ → Bool) (at at' : ℕ → Tag) (o p : ℕ) → (at p).order ≡ (at' p).order → heads M at o p ≡ heads M at' o p
heads-same M at at' o p e = rw e

-- where the run had the order of the new tag, no count changes
pub paint-count : (M : ℕ → Bool) (n : ℕ) (at : ℕ → Tag) (o c : ℕ) (v : Tag) → ((q : ℕ) → cell o q ≡ c → (at q).order ≡ v.order)
    → (j : ℕ) → count (heads M at j) n ≡ count (heads M (paint at o c v) j) n
paint-count M n at o c v had j = count_same _ _ n (λ p _. heads-same M at (paint at o c v) j p (paint-order at o c v had p))

-- in `at` the run c of order o + 1 is one block, in `at'` it is two of order o; elsewhere the orders agree
module _ {M : ℕ → Bool} {at at' : ℕ → Tag} (n o c : ℕ) (bound : (p : ℕ) → T (M p) → p < n)
    (whole : Cut M at (suc o) (suc o) c) (halves : Cut M at' o (suc o) c)
    (off : (q : ℕ) → cell (suc o) q ≢ c → (at q).order ≡ (at' q).order) where
  -- the first pages of the two halves
  abbrev lo : ℕ
  lo = first o (c * 2)

  abbrev hi : ℕ
  hi = first o (c * 2 + 1)

  in-lo : cell (suc o) lo ≡ c
  in-lo = cell-low o c lo (cell-first o (c * 2))

  in-hi : cell (suc o) hi ≡ c
  in-hi = cell-high o c hi (cell-first o (c * 2 + 1))

  -- in the run, heads of blocks of `at` are of order o + 1 only, and those of `at'` of order o
  not_at : (j p : ℕ) → j ≢ suc o → cell (suc o) p ≡ c → heads M at j p ≡ false
  not_at j p ne e = heads-no M at j p (λ _ k _. ne (sym k ∙ whole.order p e))

  not-at' : (j p : ℕ) → j ≢ o → cell (suc o) p ≡ c → heads M at' j p ≡ false
  not-at' j p ne e = heads-no M at' j p (λ _ k _. ne (sym k ∙ halves.order p e))

  same-off : (j p : ℕ) → cell (suc o) p ≢ c → heads M at j p ≡ heads M at' j p
  same-off j p e = heads-same M at at' j p (off p e)

  pub count-other : (j : ℕ) → j ≢ o → j ≢ suc o → count (heads M at j) n ≡ count (heads M at' j) n
  count-other j a b = count_same _ _ n (λ p _. by_cases (ℕ_discrete (cell (suc o) p) c)
      (λ e. not_at j p b e ∙ sym (not-at' j p a e))
      (same-off j p))

  pub count-whole : count (heads M at (suc o)) n ≡ suc (count (heads M at' (suc o)) n)
  count-whole = omega (arith, rw (head, not-at' (suc o) lo (omega arith) in-lo) at changed)
    where
      head : heads M at (suc o) lo ≡ true
      head = heads-yes M at (suc o) lo (whole.managed lo in-lo) (whole.order lo in-lo) (rw (← first-suc o c) (head_first (suc o) c))

      same : (p : ℕ) → p ≢ lo → heads M at (suc o) p ≡ heads M at' (suc o) p
      same p ne = by_cases (ℕ_discrete (cell (suc o) p) c)
          (λ e. heads-no M at (suc o) p (λ _ _ h. ne (head-is (suc o) c p h e ∙ first-suc o c)) ∙ sym (not-at' (suc o) p (omega arith) e))
          (same-off (suc o) p)

      changed : count (heads M at (suc o)) n + one (heads M at' (suc o) lo) ≡ count (heads M at' (suc o)) n + one (heads M at (suc o) lo)
      changed = count_at _ _ lo n (bound lo (whole.managed lo in-lo)) same

  pub count-half : count (heads M at' o) n ≡ count (heads M at o) n + 2
  count-half = omega (arith, rw (now lo in-lo (head_first o _), now hi in-hi (head_first o _), before lo in-lo, before hi in-hi) at changed)
    where
      now : (p : ℕ) → cell (suc o) p ≡ c → Head o p → heads M at' o p ≡ true
      now p e h = heads-yes M at' o p (halves.managed p e) (halves.order p e) h

      before : (p : ℕ) → cell (suc o) p ≡ c → heads M at o p ≡ false
      before p = not_at o p (omega arith)

      same : (p : ℕ) → p ≢ lo → p ≢ hi → heads M at' o p ≡ heads M at o p
      same p nl nh = by_cases (ℕ_discrete (cell (suc o) p) c)
          (λ e. heads-no M at' o p (λ _ _ h. nh (head-is o _ p h (cell_halves o c p e (λ k. nl (head-is o _ p h k))))) ∙ sym (before p e))
          (λ e. sym (same-off o p e))

      changed : count (heads M at' o) n + one (heads M at o lo) + one (heads M at o hi)
          ≡ count (heads M at o) n + one (heads M at' o lo) + one (heads M at' o hi)
      changed = count-two _ _ lo hi n (bound lo (whole.managed lo in-lo)) (bound hi (whole.managed hi in-hi))
          (λ e. omega (arith, first-inj o _ _ e)) same
