-- The free blocks of a sound heap are fixed by which managed pages are free: the block of a free page is the largest run around it that is
-- free all over.
use Rattle.common.specs.Kit.{ℕ, ◌≤◌, ◌≡◌, sym, ◌∙◌, ◌↔◌, Bool, Memᴰ, T, arith}
use Rattle.buddy.specs.Runs.{cell}
use Rattle.buddy.specs.Heap.{free, Tag, Tiled, NoBuddies, Heap, SoundHeap}
use Rattle.buddy.proofs.RunLaws.{cell-coarse}
use Rattle.buddy.proofs.Tags.{kind-of, tag-path}
use Rattle.buddy.proofs.Clear.{AllFree, Large, free-large, order_small, free_own}

-- a run that is free all over lies in one block
pub grows : (M : ℕ → Bool) (at : ℕ → Tag) → Tiled M at → NoBuddies M at → (o p : ℕ) → o ≤ 5 → AllFree M at o (cell o p) → o ≤ (at p).order
grows M at tiled apart o p valid f = rw ((tiled l.page (f l.page l.within).0).same p near) l.large
  where
    l : Large M at o (cell o p)
    l = free-large M at apart o (cell o p) valid f

    near : cell (at l.page).order p ≡ cell (at l.page).order l.page
    near = cell-coarse o (at l.page).order p l.page l.large (sym l.within)

module _ (M : ℕ → Bool) where
  order_le : (a b : ℕ → Tag) → Tiled M a → Tiled M b → NoBuddies M b → ((q : ℕ) → T (M q) → (a q).kind ≡ free → (b q).kind ≡ free)
      → (p : ℕ) → T (M p) → (a p).kind ≡ free → (a p).order ≤ (b p).order
  order_le a b ta tb nb f p m e = grows M b tb nb (a p).order p (order_small M a ta p m)
      (λ q k. let c = free_own M a ta p m e q k in (c.0, f q c.0 c.1))

  module _ {n : ℕ} {h g : Heap} (s : SoundHeap M n h) (r : SoundHeap M n g)
      (same : (q : ℕ) → T (M q) → ((h.at q).kind ≡ free) ↔ ((g.at q).kind ≡ free)) where
    pub canon : (p : ℕ) → T (M p) → (h.at p).kind ≡ free → h.at p ≡ g.at p
    canon p m e =
        let x = (same p m).0 e in
        let a = order_le h.at g.at s.core.tiled r.core.tiled r.apart (λ q t. (same q t).0) p m e in
        let b = order_le g.at h.at r.core.tiled s.core.tiled s.apart (λ q t. (same q t).1) p m x in
        tag-path (h.at p) (omega (arith, a, b)) (e ∙ sym x)

    -- so each list holds the same blocks, perhaps in another order
    pub canon-lists : (o p : ℕ) → o ≤ 5 → Memᴰ p (h.list o) → Memᴰ p (g.list o)
    canon-lists o p l x =
        let f = (s.core.listed o l).sound p x in
        (r.core.listed o l).full p (record { managed = f.managed; is = sym (canon p f.managed (kind-of f.is)) ∙ f.is; head = f.head })
