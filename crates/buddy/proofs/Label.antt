-- A block out takes another kind that is not free: a slab or file page just granted, a file page's next count. Nothing else changes.
use Rattle.common.specs.Kit.{ℕ, ◌≡◌, refl, ◌∙◌, ◌≢◌, ◌↔◌, by_cases, Bool, le_refl, ℕ_discrete}
use mathlib.Core.Logic.Iff
use Rattle.buddy.specs.Runs.{cell}
use Rattle.buddy.specs.Heap.{Kind, free, tag, Fits, Heap, SoundHeap}
use Rattle.buddy.specs.Steps.{label}
use Rattle.buddy.proofs.Paint.{paint-in, paint-out, paint-order, BlockOut, recut-tiled}
use Rattle.buddy.proofs.Blocks.{paint-count}
use Rattle.buddy.proofs.Steps.{quiet-listed}
use Rattle.buddy.proofs.Apart.{quiet-apart}

module _ (h : Heap) (o c : ℕ) (k : Kind) where
  pub label-on : (q : ℕ) → cell o q ≡ c → (label h o c k).at q ≡ tag o k
  unfolding label
  label-on q e = paint-in h.at o c (tag o k) q e

  pub label-off : (q : ℕ) → cell o q ≢ c → (label h o c k).at q ≡ h.at q
  unfolding label
  label-off q e = paint-out h.at o c (tag o k) q e

module _ {M : ℕ → Bool} {n : ℕ} {h : Heap} {o c : ℕ} {k : Kind} (s : SoundHeap M n h) (fits : Fits k o) (busy : k ≢ free)
    (out : BlockOut M h.at o c) where
  pub label-sound : SoundHeap M n (label h o c k)
  unfolding label
  label-sound = record {
    core = record {
      tiled = recut-tiled o o o c k s.core.tiled out.cut (le_refl o) fits (le_refl o);
      listed = quiet-listed s.core (tag o k) out busy;
      counted = λ j l. s.core.counted j l ∙ paint-count M n h.at o c (tag o k) out.cut.order j;
    };
    apart = quiet-apart M M o c (tag o k) (λ _ _. refl) busy s.apart;
  }

  pub label-order : (q : ℕ) → (h.at q).order ≡ ((label h o c k).at q).order
  unfolding label
  label-order q = paint-order h.at o c (tag o k) out.cut.order q

  pub label-busy : (q : ℕ) → ((h.at q).kind ≢ free) ↔ (((label h o c k).at q).kind ≢ free)
  label-busy q = by_cases (ℕ_discrete (cell o q) c)
      (λ e. (λ _. rw (label-on h o c k q e) busy, λ _. out.busy q e))
      (λ e. rw (label-off h o c k q e) Iff.rfl)
