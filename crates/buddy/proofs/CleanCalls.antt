-- Every call keeps a heap clean: none reaches above order 5, and none changes the tag of a page that is not managed.
use Rattle.common.specs.Kit.{ℕ, ◌-◌, ◌≤◌, ◌<◌, ◌≡◌, refl, sym, Bool, T, arith}
use Rattle.buddy.specs.Runs.{cell}
use Rattle.buddy.specs.Heap.{Kind, Heap, SoundHeap, Clean}
use Rattle.buddy.specs.Steps.{label}
use Rattle.buddy.specs.Rules.{free_block, free_page, recount}
use Rattle.buddy.specs.Request.{Request}
use Rattle.buddy.specs.History.{Outcome, call}
use Rattle.buddy.proofs.RunLaws.{cell-zero}
use Rattle.buddy.proofs.Tags.{used≢free}
use Rattle.buddy.proofs.Label.{label-off}
use Rattle.buddy.proofs.Clean.{High, free-high, high-clean, free-clean}
use Rattle.buddy.proofs.Grant.{Granted}
use Rattle.buddy.proofs.Pages.{OutHead, out-block, out-valid, file-out}
use Rattle.buddy.proofs.Calls.{asks-valid, Called, refuse, grant, return, more, less, last, called}

-- a free changes nothing above order 5, so neither does a grant that it undoes
undone-high : (M : ℕ → Bool) (g h : Heap) (o c : ℕ) → o ≤ 5 → free_block M (5 - o) g o c ≡ h → High h g
undone-high M g h o c l undo =
    let r : High g h = rw undo at (free-high M (5 - o) g o c (omega arith)) in
    record { lists = λ k a. sym (r.lists k a); counts = λ k a. sym (r.counts k a) }

module _ {M : ℕ → Bool} {n : ℕ} (bound : (p : ℕ) → T (M p) → p < n) (h : Heap) (s : SoundHeap M n h) (clean : Clean M h) where
  pub grant-clean : {g : Heap} {o c : ℕ} {k : Kind} → o ≤ 5 → Granted M n h g o c k → free_block M (5 - o) g o c ≡ h → Clean M g
  grant-clean {g} {o} {c} l r undo = high-clean clean (undone-high M g h o c l undo) (λ p t. r.others p (rw (clean.tags p t) used≢free))

  pub label-clean : (o c : ℕ) (k : Kind) → ((q : ℕ) → cell o q ≡ c → T (M q)) → Clean M (label h o c k)
  unfolding label
  label-clean o c k managed = high-clean clean
      (record { lists = λ i l. refl; counts = λ i l. refl })
      (λ p t. label-off h o c k p (λ e. t (managed p e)))

  pub recount-clean : (p i : ℕ) → T (M p) → Clean M (recount h p i)
  unfolding recount
  recount-clean p i m = label-clean 0 (cell 0 p) _ (λ q e. let x : q ≡ p = omega (arith, cell-zero p, cell-zero q) in rw x m)

  pub free-page-clean : {o p : ℕ} → OutHead M h.at o p → Clean M (free_page M h p)
  unfolding free_page
  free-page-clean {o} {p} f =
      let t = s.core.tiled in
      rw f.order (free-clean clean bound (5 - o) o (cell o p) (omega (arith, out-valid t f)) s (out-block t f))

  pub call-clean : (x : Request) → Clean M (call M h x).heap
  call-clean x = go x (call M h x) (called bound h s x)
    where
      go : (x : Request) (r : Outcome) → Called M n h x r → Clean M r.heap
      go x _ refuse = clean
      go x _ (grant a r undo) = grant-clean (asks-valid a) r undo
      go _ _ (return f _) = free-page-clean f
      go _ _ (more {p} {i} f) = recount-clean p _ f.managed
      go _ _ (less {p} {i} f) = recount-clean p _ f.managed
      go _ _ (last f _) = free-page-clean (file-out f)
