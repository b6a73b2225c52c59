-- Soundness can be met, in every place that a region may have: by record and words that show what set-up leaves.
use Rattle.common.specs.Kit.{ℕ, sym, subst, Bool, List}
use Rattle.buddy.specs.Heap.{Heap}
use Rattle.buddy.specs.Rules.{set_up}
use Rattle.buddy.proofs.Spans.{T-span}
use Rattle.buddy.proofs.SetUp.{set-up}
use Rattle.region.specs.Layout.{end_of, managed}
use Rattle.region.specs.Sound.{Sound}
use Rattle.region.specs.declared.HeapMemoryRegion.{HeapMemoryRegion}
use Rattle.refine.specs.Image.{region_of, words_of}
use Rattle.refine.specs.Fit.{SoundFit}
use Rattle.refine.proofs.Managed.{managed-span}
use Rattle.refine.proofs.Inverse.{write-sound}
use Rattle.refine.proofs.Step.{Lent}

-- the heap that set-up leaves in the place of region r
abbrev pub fresh : HeapMemoryRegion → Heap
fresh r = (set_up r.allocated (end_of r)).heap

module _ (r : HeapMemoryRegion) where
  pub fresh-fit : (ws : List ℕ) → SoundFit (managed r ws) r (fresh r)
  fresh-fit ws =
      let s = set-up r.allocated (end_of r) in
      subst (λ (M : ℕ → Bool). SoundFit M r (fresh r)) (sym (managed-span r ws)) (record {
        fits = record {
          core = s.sound.core;
          within = λ p m. (T-span r.allocated (end_of r) p m).1;
          holds = λ p m. rw (s.all-free p m) tt;
          clean = s.clean;
        };
        sound = s.sound;
      })

  pub fresh-sound : Lent r → Sound (region_of r (fresh r)) (words_of r (fresh r))
  fresh-sound lent = write-sound r (words_of r (fresh r)) (fresh r) lent (fresh-fit (words_of r (fresh r)))
