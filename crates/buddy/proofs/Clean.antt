-- Clean heaps: they say nothing of pages that are not managed, and of orders above 5, so that what is shown of a heap fixes it.
-- No step reaches above order 5, and none changes the tag of a page that is not managed.
use Rattle.common.specs.Kit.{ℕ, zero, suc, ◌+◌, ◌/◌, ◌≤◌, ◌<◌, ◌≡◌, refl, ◌∙◌, ◌≢◌, Bool, T, arith}
use Rattle.common.proofs.Tests.{by-test}
use Rattle.common.proofs.Lists.{update_other}
use Rattle.buddy.specs.Runs.{cell, first, buddy}
use Rattle.buddy.specs.Heap.{used, tag, Heap, SoundHeap, Clean}
use Rattle.buddy.specs.Steps.{push, take, halve, merge, with_run, add}
use Rattle.buddy.specs.Rules.{free_at, free_block}
use Rattle.buddy.proofs.Tags.{used≢free}
use Rattle.buddy.proofs.Paint.{paint-out, BlockOut}
use Rattle.buddy.proofs.Free.{join, free_block-stop, free_block-up, free-result}
use Rattle.buddy.proofs.Add.{with_run-in, with_run-out}

-- g has the lists and counts of h above order 5
pub record High (h g : Heap) : Type 0 where
  pub lists : (k : ℕ) → 5 < k → g.list k ≡ h.list k
  pub counts : (k : ℕ) → 5 < k → g.blocks k ≡ h.blocks k

pub then-high : {h g f : Heap} → High h g → High g f → High h f
then-high a b = record { lists = λ k l. b.lists k l ∙ a.lists k l; counts = λ k l. b.counts k l ∙ a.counts k l }

module _ (h : Heap) (o c : ℕ) where
  pub push-high : o ≤ 5 → High h (push h o c)
  unfolding push
  push-high s = record { lists = λ k l. update_other _ o _ k (omega arith); counts = λ k l. refl }

  pub take-high : o ≤ 5 → High h (take h o c)
  unfolding take
  take-high s = record { lists = λ k l. update_other _ o _ k (omega arith); counts = λ k l. refl }

  pub halve-high : o < 5 → High h (halve h o c)
  unfolding halve
  halve-high s = record { lists = λ k l. refl; counts = λ k l. update_other _ o _ k (omega arith) ∙ update_other _ (suc o) _ k (omega arith) }

  pub merge-high : o < 5 → High h (merge h o c)
  unfolding merge
  merge-high s = record { lists = λ k l. refl; counts = λ k l. update_other _ (suc o) _ k (omega arith) ∙ update_other _ o _ k (omega arith) }

pub free-high : (M : ℕ → Bool) (left : ℕ) (h : Heap) (o c : ℕ) → left + o ≡ 5 → High h (free_block M left h o c)
unfolding free_block
free-high M zero h o c l = push-high h o c (omega arith)
free-high M (suc left) h o c l = by-test (free_at M h o (first o (buddy c)))
    (λ e. rw (free_block-up M left h o c e) (then-high (then-high (take-high h o (buddy c) (omega arith)) (merge-high _ o (c / 2) (omega arith)))
    (free-high M left (join h o c) (suc o) (c / 2) (omega arith))))
    (λ e. rw (free_block-stop M left h o c e) (push-high h o c (omega arith)))

module _ {M : ℕ → Bool} {h : Heap} (clean : Clean M h) where
  pub high-clean : {g : Heap} → High h g → ((p : ℕ) → (T (M p) → ⊥) → g.at p ≡ h.at p) → Clean M g
  high-clean high same = record {
    tags = λ p t. same p t ∙ clean.tags p t;
    lists = λ o l. high.lists o l ∙ clean.lists o l;
    counts = λ o l. high.counts o l ∙ clean.counts o l;
  }

  pub free-clean : {n : ℕ} (bound : (p : ℕ) → T (M p) → p < n) (left o c : ℕ) → left + o ≡ 5 → SoundHeap M n h → BlockOut M h.at o c
      → Clean M (free_block M left h o c)
  free-clean bound left o c l s out = high-clean (free-high M left h o c l) (λ p t.
      (free-result bound left h o c l s out).others p (rw (clean.tags p t) used≢free) (λ e. t (out.cut.managed p e)))

  pub add-clean : (o c : ℕ) → o ≤ 5 → Clean (with_run M o c) (add h o c)
  unfolding add
  add-clean o c s = record {
    tags = λ p t.
        let off : cell o p ≢ c = λ e. t (rw (with_run-in M o c p e) tt) in
        paint-out h.at o c (tag o used) p off ∙ clean.tags p (λ m. t (rw (with_run-out M o c p off) m));
    lists = clean.lists;
    counts = λ k l. update_other _ o _ k (omega arith) ∙ clean.counts k l;
  }
