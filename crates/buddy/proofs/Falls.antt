-- A new run is added and freed: its block goes ahead of its list, so the lists still fall if the run lies above the blocks there.
use Rattle.common.specs.Kit.{ℕ, ◌-◌, ◌≤◌, ◌<◌, ◌≡◌, refl, sym, ◌∙◌, by_cases, Bool, Memᴰ, T, ℕ_discrete, dec_lt, arith}
use Rattle.common.specs.Numbers.{Falling}
use Rattle.common.proofs.Lists.{falling-remove}
use Rattle.buddy.specs.Runs.{cell, first, start}
use Rattle.buddy.specs.Heap.{free, Tag, tag, Block, FreeHead, Heap, SoundHeap}
use Rattle.buddy.specs.Steps.{with_run, add}
use Rattle.buddy.specs.Rules.{free_block}
use Rattle.buddy.proofs.RunLaws.{cell-first, lt-end, cell-between}
use Rattle.buddy.proofs.Paint.{paint-in}
use Rattle.buddy.proofs.Free.{Freed}
use Rattle.buddy.proofs.FreeLists.{reached, Joined, free-lists}
use Rattle.buddy.proofs.Add.{with_run-in, New}

-- The run c of order o lies above the free blocks of each order that it may come to: of each order j whose run around it is managed, once
-- it is added.
abbrev pub Above : (ℕ → Bool) → (ℕ → Tag) → ℕ → ℕ → Type 0
Above M at o c = (j q : ℕ) → j ≤ 5 → FreeHead M at j q → ((x : ℕ) → cell j x ≡ cell j (first o c) → T (with_run M o c x)) → q < first o c

module _ {M : ℕ → Bool} {n o c : ℕ} {h : Heap} (s : SoundHeap M n h) (new : New M n o c) where
  abbrev M' : ℕ → Bool
  M' = with_run M o c

  abbrev h' : Heap
  h' = free_block M' (5 - o) (add h o c) o c

  pub free-falls : Freed M' n (add h o c) h' o c → Above M h.at o c → ((i : ℕ) → Falling (h.list i)) → (i : ℕ) → Falling (h'.list i)
  unfolding add
  free-falls freed above falls i = by_cases (ℕ_discrete i j)
      (λ e. rw (e, joined.head) (lower, falls j))
      (λ e. by_cases (dec_lt j i)
      (λ l. rw (joined.above i l) (falls i))
      (λ l. by_cases (dec_lt i o)
      (λ k. rw (joined.below i k) (falls i))
      (λ k. rw (joined.taken i (omega arith) (omega arith)) (falling-remove _ (h.list i) (falls i)))))
    where
      p : ℕ
      p = first o c

      j : ℕ
      j = reached M' (5 - o) (add h o c) o p

      joined : Joined (add h o c) h' o j p
      joined = rw (cell-first o c) at (free-lists M' (5 - o) (add h o c) o p)

      is : h'.at p ≡ tag j free
      is = joined.tags p ∙ paint-in _ j (cell j p) (tag j free) p refl

      -- the block that it comes to
      block : Block M' h'.at p
      block = freed.sound.core.tiled p (rw (with_run-in M o c p (cell-first o c)) tt)

      small : j ≤ 5
      small = rw is at block.fits

      -- a block on list j is below p, and is not the run of order j around p, for p was not managed
      lower : (q : ℕ) → Memᴰ q (h.list j) → q < start j p
      lower q m =
          let f = (s.core.listed j small).sound q m in
          let l = above j q small f (rw is at block.inside) in
          by_cases (dec_lt q (start j p)) (λ k. k) (λ k. absurd (new.fresh p (cell-first o c)
          ((s.core.tiled q f.managed).inside p (rw f.is (sym (cell-between j p q (omega arith) (omega (arith, l, lt-end j p))))))))
