-- Runs that are free all over. In a sound heap such a run holds a page of a free block at least as large, since two free halves of one order
-- would be buddies; so with the lists of its order and above empty there is none.
use Rattle.common.specs.Kit.{ℕ, zero, suc, ◌+◌, ◌*◌, ◌≤◌, ◌≡◌, refl, sym, ◌∙◌, by_cases, Bool, [], Memᴰ, mem-not_nil, T, dec_le, arith}
use Rattle.buddy.specs.Runs.{cell, start}
use Rattle.buddy.specs.Heap.{Kind, free, used, slab, file, Tag, Fits, Tiled, FreeHead, NoBuddies, Heap, SoundHeap}
use Rattle.buddy.proofs.RunLaws.{cell-zero, cell-low, cell-high, cell-start, head-start}
use Rattle.buddy.proofs.Tags.{tag-path}

fits-small : (k : Kind) (o : ℕ) → Fits k o → o ≤ 5
fits-small free o f = f
fits-small used o f = f
fits-small (slab i) o f = omega arith
fits-small (file n) o f = omega arith

module _ (M : ℕ → Bool) (at : ℕ → Tag) where
  -- every page of the run c of order o is managed and free
  abbrev pub AllFree : ℕ → ℕ → Type 0
  AllFree o c = (q : ℕ) → cell o q ≡ c → T (M q) × ((at q).kind ≡ free)

  -- a page of the run c of order o whose block is at least as large
  pub record Large (o c : ℕ) : Type 0 where
    pub page : ℕ
    pub within : cell o page ≡ c
    pub large : o ≤ (at page).order

  module _ (apart : NoBuddies M at) where
    pub free-large : (o c : ℕ) → o ≤ 5 → AllFree o c → Large o c
    free-large zero c valid f = record { page = c; within = cell-zero c; large = omega arith }
    free-large (suc o) c valid f =
        join
        (free-large o (c * 2) (omega arith) (λ q e. f q (cell-low o c q e)))
        (free-large o (c * 2 + 1) (omega arith) (λ q e. f q (cell-high o c q e)))
      where
        join : Large o (c * 2) → Large o (c * 2 + 1) → Large (suc o) c
        join l u = by_cases (dec_le (suc o) (at l.page).order)
            (λ k. record { page = l.page; within = low; large = k })
            (λ k. record { page = u.page; within = high; large = by_cases (dec_le _ _) (λ j. j) (λ j. absurd (omega (arith, halves k j))) })
          where
            low : cell (suc o) l.page ≡ c
            low = cell-low o c l.page l.within

            high : cell (suc o) u.page ≡ c
            high = cell-high o c u.page u.within

            halves : (suc o ≤ (at l.page).order → ⊥) → (suc o ≤ (at u.page).order → ⊥) → c * 2 ≡ c * 2 + 1
            halves k j = sym l.within
                ∙ apart o l.page u.page valid (f _ low).0 (f _ high).0
                (tag-path _ (omega (arith, l.large)) (f _ low).1) (tag-path _ (omega (arith, u.large)) (f _ high).1) (low ∙ sym high)
                ∙ u.within

  module _ (tiled : Tiled M at) (p : ℕ) (m : T (M p)) where
    pub order_small : (at p).order ≤ 5
    order_small = fits-small (at p).kind (at p).order (tiled p m).fits

  -- the block around a free page: its head, and its run
  module _ (tiled : Tiled M at) (p : ℕ) (m : T (M p)) (f : (at p).kind ≡ free) where
    pub free-head : FreeHead M at (at p).order (start (at p).order p)
    free-head = record {
      managed = (tiled p m).inside _ (cell-start (at p).order p);
      is = (tiled p m).same _ (cell-start (at p).order p) ∙ tag-path (at p) refl f;
      head = head-start (at p).order p;
    }

    pub free_own : AllFree (at p).order (cell (at p).order p)
    free_own q e = ((tiled p m).inside q e, rw ((tiled p m).same q e) f)

pub none_free : (M : ℕ → Bool) (n : ℕ) (h : Heap) → SoundHeap M n h → (o : ℕ) → o ≤ 5 → ((j : ℕ) → o ≤ j → j ≤ 5 → h.list j ≡ [])
    → (c : ℕ) → AllFree M h.at o c → ⊥
none_free M n h s o valid none c f = mem-not_nil (rw (none _ l.large top) at member)
  where
    l : Large M h.at o c
    l = free-large M h.at s.apart o c valid f

    m : T (M l.page)
    m = (f l.page l.within).0

    is : (h.at l.page).kind ≡ free
    is = (f l.page l.within).1

    top : (h.at l.page).order ≤ 5
    top = order_small M h.at s.core.tiled l.page m

    member : Memᴰ (start (h.at l.page).order l.page) (h.list (h.at l.page).order)
    member = (s.core.listed _ top).full _ (free-head M h.at s.core.tiled l.page m is)
