-- To merge the two halves of a run, both out, is the heap's merge.
use Rattle.common.specs.Kit.{ℕ, suc, ◌+◌, ◌-◌, ◌<◌, ◌≡◌, refl, ◌≢◌, Bool, set, add-one, arith}
use Rattle.words.specs.Word.{mem_of}
use Rattle.buddy.specs.Runs.{cell, first}
use Rattle.buddy.specs.Heap.{used, tag, Heap}
use Rattle.buddy.specs.Steps.{merge}
use Rattle.buddy.proofs.Tags.{order-of}
use Rattle.buddy.proofs.Paint.{Cut, BlocksOut, paint-in, paint-out}
use Rattle.buddy.proofs.Blocks.{count-half}
use Rattle.buddy.proofs.Steps.{merge-core, merge-out}
use Rattle.buddy.proofs.Clean.{merge-high}
use Rattle.pages.specs.Info.{allocated_info}
use Rattle.pages.specs.Fill.{mark}
use Rattle.region.specs.Layout.{end_of}
use Rattle.region.specs.State.{lower, merge as merge_state, MergeOk}
use Rattle.refine.specs.Image.{words_of, image}
use Rattle.region.specs.declared.HeapMemoryRegion.{HeapMemoryRegion}
use Rattle.refine.specs.Fit.{Fits}
use Rattle.refine.proofs.Shown.{words_long}
use Rattle.refine.proofs.Record.{blocks-image, region-two}
use Rattle.refine.proofs.Words.{entry-same, words-run}
use Rattle.refine.proofs.Step.{Lent, Step, run-below, blocks-small, paint-fits}

module _ {M : ℕ → Bool} {r : HeapMemoryRegion} {h : Heap} (f : Fits M r h) (lent : Lent r) {o d : ℕ} (valid : o < 5)
    (out : BlocksOut M h.at o (suc o) d) where
  whole : Cut M (merge h o d).at (suc o) (suc o) d
  whole = (merge-out h out).cut

  off : (q : ℕ) → cell (suc o) q ≢ d → (merge h o d).at q ≡ h.at q
  unfolding merge
  off q e = paint-out h.at (suc o) d (tag (suc o) used) q e

  merge-words : mark (first (suc o) d) (suc o) (set (words_of r h) (first (suc o) d) (mem_of (allocated_info (suc o)))) ≡ words_of r (merge h o d)
  unfolding merge
  merge-words = words-run r h (merge h o d) (suc o) d used (λ q e. f.within q (out.cut.managed q e))
      (paint-in h.at (suc o) d (tag (suc o) used)) (λ q e. entry-same h (merge h o d) q (off q e) (λ _ _. refl))

  -- by the pages of the two halves
  pub merge-image : (p q : ℕ) → lower p q ≡ first (suc o) d
      → Step M r (MergeOk p q o (image r h)) (merge_state (lower p q) o (image r h)) (merge h o d)
  unfolding merge_state merge
  merge-image p q low = record {
    ok = record {
      order = valid;
      block = rw (low, add-one o) (record { order = omega arith; ends = rw (words_long r h) (omega (arith, run-below f whole)) });
      pair = rw (blocks-image r h o (omega arith), f.core.counted o (omega arith))
          (omega (arith, count-half (end_of r) o d f.within whole out.cut (λ x e. order-of (off x e))));
      count = rw (add-one o, blocks-image r h (suc o) (omega arith)) (omega (arith, blocks-small f lent (suc o) valid));
    };
    leaves = rw (
      low,
      blocks-image r h o (omega arith),
      blocks-image r h (suc o) (omega arith),
      region-two r h (merge h o d).at o (h.blocks o - 2) (suc o) (h.blocks (suc o) + 1),
      merge-words,
    );
    fits = paint-fits f (suc o) (suc o) d used out.cut.managed tt (merge-core f.within f.core valid out) (merge-high h o d valid) (λ _. refl);
  }
