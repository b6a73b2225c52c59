-- Soundness is kept: from sound input every call leaves sound input.
use Rattle.common.specs.Kit.{ℕ, List}
use Rattle.buddy.specs.Request.{Request}
use Rattle.region.specs.declared.HeapMemoryRegion.{HeapMemoryRegion}
use Rattle.sound_calls.specs.Answer.{Effect}
use Rattle.sound_calls.specs.Promise.{does}
use Rattle.sound_calls.proofs.SoundInput.{SoundInput, write-input}
use Rattle.sound_calls.proofs.Requests.{Way, refuse, succeed}
use Rattle.sound_calls.proofs.Outcomes.{outcomes}

pub keeps : {r : HeapMemoryRegion} {ws : List ℕ} → SoundInput r ws → (x : Request) → SoundInput (does r ws x).region (does r ws x).words
keeps {r} {ws} good x = go (does r ws x) (outcomes good x)
  where
    go : (y : Effect) → Way r ws x y → SoundInput y.region y.words
    go _ (refuse _) = good
    go _ (succeed _ g _ _ _ _ f) = write-input good g f
