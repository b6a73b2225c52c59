-- To write the head of a block out is to give the block another kind; to write what it says already changes nothing.
use Rattle.common.specs.Kit.{ℕ, ◌≡◌, refl, ap, ◌≢◌, Bool}
use Rattle.buddy.specs.Runs.{first}
use Rattle.buddy.specs.Heap.{Kind, free, used, Heap}
use Rattle.buddy.specs.Steps.{label}
use Rattle.buddy.proofs.RunLaws.{cell-first, head_first}
use Rattle.buddy.proofs.Paint.{BlockOut}
use Rattle.buddy.proofs.Label.{label-sound}
use Rattle.buddy.proofs.Grant.{InHand}
use Rattle.pages.specs.Info.{allocated_info}
use Rattle.region.specs.State.{st}
use Rattle.region.specs.Steps.{write}
use Rattle.refine.specs.Image.{next_after, head_info, region_of, image}
use Rattle.region.specs.declared.HeapMemoryRegion.{HeapMemoryRegion}
use Rattle.refine.specs.Fit.{Holds, Fits, SoundFit}
use Rattle.refine.proofs.Meanings.{head-same}
use Rattle.refine.proofs.Words.{entry_first, words-set, words-paint}
use Rattle.refine.proofs.Step.{paint-fits}

module _ {M : ℕ → Bool} {r : HeapMemoryRegion} {h : Heap} (f : Fits M r h) {o c : ℕ} where
  pub label-image : BlockOut M h.at o c → (k : Kind) → k ≢ free → (next : ℕ)
      → write (first o c) (head_info k o next) (image r h) ≡ image r (label h o c k)
  unfolding label region_of
  label-image out k busy next = rw (
    head-same k o next (next_after (first o c) (h.list o)) (λ e. absurd (busy e)),
    words-paint f (label h o c k) o c k out.cut (λ _. refl) (λ _ _ _ _. refl),
  )

  -- of a block out as an ordinary one
  pub hand-image : InHand M h.at o c → write (first o c) (allocated_info o) (image r h) ≡ image r h
  hand-image hand = ap (st (region_of r h)) (words-set r h h (first o c) (allocated_info o) (f.within _ (hand.managed _ (cell-first o c)))
      (entry_first h o (first o c) used (hand.is _ (cell-first o c)) (head_first o c)) (λ _ _. refl))

pub label-fit : {M : ℕ → Bool} {r : HeapMemoryRegion} {h : Heap} {o c : ℕ} → SoundFit M r h → BlockOut M h.at o c
    → (k : Kind) → Rattle.buddy.specs.Heap.Fits k o → k ≢ free → Holds k → SoundFit M r (label h o c k)
unfolding label
label-fit {o = o} {c = c} f out k fits busy holds = let s = label-sound f.sound fits busy out in record {
  fits = paint-fits f.fits o o c k out.cut.managed holds s.core (record { lists = λ _ _. refl; counts = λ _ _. refl }) (λ _. refl);
  sound = s;
}
