-- Record and words of the code's types that are sound. They are the image of the heap that is read from them; what shows in their place a sound
-- heap that fits is sound input again.
use Rattle.common.specs.Kit.{ℕ, ◌≡◌, sym, List}
use Rattle.buddy.specs.Heap.{Heap}
use Rattle.region.specs.Sound.{Sound}
use Rattle.region.specs.State.{st}
use Rattle.refine.specs.Image.{heap_of, region_of, words_of, image, Typed}
use Rattle.region.specs.declared.HeapMemoryRegion.{HeapMemoryRegion}
use Rattle.refine.specs.Fit.{SoundFit}
use Rattle.region.specs.Layout.{managed}
use Rattle.refine.proofs.Step.{Lent}
use Rattle.refine.proofs.Inverse.{read-fit, read-write, write-typed, write-sound}

pub record SoundInput (r : HeapMemoryRegion) (ws : List ℕ) : Type 0 where
  pub typed : Typed r ws
  pub sound : Sound r ws

module _ {r : HeapMemoryRegion} {ws : List ℕ} (good : SoundInput r ws) where
  pub lent : Lent r
  lent = rw good.sound.limits.long at good.sound.limits

  pub fit : SoundFit (managed r ws) r (heap_of r ws)
  fit = read-fit r ws good.typed good.sound

  pub is-image : st r ws ≡ image r (heap_of r ws)
  is-image = sym (read-write r ws good.typed good.sound)

  pub write-input : (g : Heap) → SoundFit (managed r ws) r g → SoundInput (region_of r g) (words_of r g)
  write-input g f = record { typed = write-typed (managed r ws) r g lent f.fits; sound = write-sound r ws g lent f }
