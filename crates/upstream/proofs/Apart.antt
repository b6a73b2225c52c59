-- Blocks of a tiling do not overlap, be they free or out. Upstream has this from permissions to memory; here one tag to a page is enough.
-- These are results.
use Rattle.common.specs.Kit.{ℕ, ◌+◌, ◌^◌, ◌≤◌, ◌<◌, ◌≡◌, refl, sym, ◌∙◌, ◌≢◌, ◌⊎◌, inl, inr, by_cases, Bool, Memᴰ, T, dec_le, arith}
use Rattle.buddy.specs.Runs.{cell, Head}
use Rattle.buddy.specs.Heap.{Tag, Tiled, Heap, Core}
use Rattle.buddy.proofs.RunLaws.{cell-between, head-unique}
use Rattle.buddy.proofs.Tags.{order-of}
use Rattle.buddy.proofs.Paint.{BlockOut}

module _ {M : ℕ → Bool} {at : ℕ → Tag} (tiled : Tiled M at) where
  -- a head inside another block is that block's head
  one-head : (p q : ℕ) → T (M p) → Head (at p).order p → Head (at q).order q → p ≤ q → q < p + 2 ^ (at p).order → p ≡ q
  one-head p q m hp hq l u =
      let near : cell (at p).order q ≡ cell (at p).order p = cell-between (at p).order p q (omega arith) (omega arith) in
      head-unique (at p).order p q hp (rw (order-of ((tiled p m).same q near)) at hq) (sym near)

  -- the blocks of two heads
  pub blocks-apart : (p q : ℕ) → T (M p) → T (M q) → Head (at p).order p → Head (at q).order q → p ≢ q
      → (p + 2 ^ (at p).order ≤ q) ⊎ (q + 2 ^ (at q).order ≤ p)
  blocks-apart p q mp mq hp hq ne = by_cases (dec_le (p + 2 ^ (at p).order) q) inl (λ u. inr (by_cases (dec_le (q + 2 ^ (at q).order) p)
      (λ v. v)
      (λ v. by_cases (dec_le p q)
      (λ l. absurd (ne (one-head p q mp hp hq l (omega arith))))
      (λ l. absurd (ne (sym (one-head q p mq hq hp (omega arith) (omega arith))))))))

-- the block of order o at page p stands in the heap, on its list or out
abbrev pub Stands : (ℕ → Bool) → Heap → ℕ → ℕ → Type 0
Stands M h o p = ((o ≤ 5) × Memᴰ p (h.list o)) ⊎ (Head o p × BlockOut M h.at o (cell o p))

module _ {M : ℕ → Bool} {n : ℕ} {h : Heap} (k : Core M n h) where
  -- either way page p is managed and heads a block of order o
  stands-head : {o p : ℕ} → Stands M h o p → T (M p) × ((h.at p).order ≡ o) × Head o p
  stands-head {o} {p} (inl (l, m)) = let f = (k.listed o l).sound p m in (f.managed, order-of f.is, f.head)
  stands-head {o} {p} (inr (head, out)) = (out.cut.managed p refl, out.cut.order p refl, head)

  -- two blocks that stand
  pub stands-apart : {o j p q : ℕ} → Stands M h o p → Stands M h j q → (o ≡ j → p ≢ q) → (p + 2 ^ o ≤ q) ⊎ (q + 2 ^ j ≤ p)
  stands-apart {o} {j} {p} {q} s t ne =
      let f = stands-head s in
      let g = stands-head t in
      let a : (h.at p).order ≡ o = f.1 in
      let b : (h.at q).order ≡ j = g.1 in
      rw (a, b) at (blocks-apart k.tiled p q f.0 g.0 (rw a f.2) (rw b g.2) (λ e. ne (sym a ∙ rw e b) e))

  -- a block that is out overlaps no other, out or listed
  pub out-apart : {o j p q : ℕ} → Head o p → BlockOut M h.at o (cell o p) → Stands M h j q → (o ≡ j → p ≢ q)
      → (p + 2 ^ o ≤ q) ⊎ (q + 2 ^ j ≤ p)
  out-apart head out = stands-apart (inr (head, out))

  -- the blocks at two places of the lists
  pub lists-apart : {o j p q : ℕ} → o ≤ 5 → j ≤ 5 → Memᴰ p (h.list o) → Memᴰ q (h.list j) → (o ≡ j → p ≢ q)
      → (p + 2 ^ o ≤ q) ⊎ (q + 2 ^ j ≤ p)
  lists-apart lo lj mp mq = stands-apart (inl (lo, mp)) (inl (lj, mq))
