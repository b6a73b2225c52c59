-- One step of set-up on the image of a heap: a run of the region that is not managed yet becomes a block, and is freed.
use Rattle.common.specs.Kit.{ℕ, ◌+◌, ◌-◌, ◌≤◌, ◌≡◌, refl, by_cases, Bool, ℕ_discrete, arith}
use Rattle.buddy.specs.Runs.{cell, first}
use Rattle.buddy.specs.Heap.{used, tag, Heap}
use Rattle.buddy.specs.Steps.{with_run, add}
use Rattle.buddy.specs.Rules.{free_block}
use Rattle.buddy.proofs.Paint.{BlockOut, paint-in, paint-out}
use Rattle.buddy.proofs.Add.{with_run-out, New, add-bound, add-out, add-sound}
use Rattle.buddy.proofs.Clean.{add-clean}
use Rattle.region.specs.Layout.{end_of}
use Rattle.refine.specs.Image.{image}
use Rattle.region.specs.declared.HeapMemoryRegion.{HeapMemoryRegion}
use Rattle.refine.specs.Fit.{SoundFit}
use Rattle.refine.proofs.Record.{blocks-image, region-blocks}
use Rattle.refine.proofs.Shown.{words_long}
use Rattle.refine.proofs.Words.{entry-same, words-run}
use Rattle.refine.proofs.Step.{Lent, Rule, run-below, blocks-small}
use Rattle.refine.proofs.Free.{free-image}
use Rattle.setup.specs.Steps.{add_block, grow_block, GrowOk}

module _ {M : ℕ → Bool} {r : HeapMemoryRegion} {h : Heap} (f : SoundFit M r h) (o c : ℕ) (valid : o ≤ 5) (new : New M (end_of r) o c) where
  out : BlockOut (with_run M o c) (add h o c).at o c
  out = add-out new h

  add_fit : SoundFit (with_run M o c) r (add h o c)
  unfolding add
  add_fit = let s = add-sound new f.sound valid in record {
    fits = record {
      core = s.core;
      within = add-bound new f.fits.within;
      holds = λ p m. by_cases (ℕ_discrete (cell o p) c)
          (λ e. rw (paint-in h.at o c (tag o used) p e) tt)
          (λ e. rw (paint-out h.at o c (tag o used) p e) (f.fits.holds p (rw (with_run-out M o c p e) at m)));
      clean = add-clean f.fits.clean o c valid;
    };
    sound = s;
  }

  add-image : add_block o (first o c) (image r h) ≡ image r (add h o c)
  unfolding add_block add
  add-image = rw (
    blocks-image r h o (omega arith),
    region-blocks r h o (add h o c).at (h.blocks o + 1),
    words-run r h (add h o c) o c used new.room (λ q e. paint-in h.at o c (tag o used) q e)
        (λ q e. entry-same h (add h o c) q (paint-out h.at o c (tag o used) q e) (λ _ _. refl)),
  )

  pub grow-image : Lent r → Rule (with_run M o c) r (GrowOk o (first o c) (image r h)) (grow_block o (first o c) (image r h))
      (free_block (with_run M o c) (5 - o) (add h o c) o c)
  unfolding grow_block
  grow-image lent = let freed = free-image add_fit lent out in record {
    ok = record {
      block = record { order = omega arith; ends = rw (words_long r h) (omega (arith, run-below add_fit.fits out.cut)) };
      count = rw (blocks-image r h o (omega arith)) (omega (arith, blocks-small f.fits lent o valid));
      free = rw add-image freed.ok;
    };
    leaves = rw add-image freed.leaves;
    fit = freed.fit;
  }
