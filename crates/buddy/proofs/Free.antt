-- Rule 5 keeps soundness; it frees the block's pages and changes no other block that is out.
use Rattle.common.specs.Kit.{ℕ, zero, suc, ◌+◌, ◌/◌, ◌≤◌, ◌<◌, ◌≡◌, sym, ◌∙◌, ◌≢◌, by_cases, Bool, true, false, T, ℕ_discrete, arith}
use Rattle.common.proofs.Tests.{by-test}
use Rattle.buddy.specs.Runs.{cell, first, buddy}
use Rattle.buddy.specs.Heap.{free, used, tag, Heap, SoundHeap}
use Rattle.buddy.specs.Steps.{push, take, merge}
use Rattle.buddy.specs.Rules.{free_at, free_block}
use Rattle.buddy.proofs.RunLaws.{cell-suc, buddy-is, buddy-half, buddy-not}
use Rattle.buddy.proofs.Tags.{kind-of}
use Rattle.buddy.proofs.Paint.{paint-in, paint-out, BlocksOut, BlockOut, FreeBlock, still-out, both_out}
use Rattle.buddy.proofs.Steps.{take_out, merge-out}
use Rattle.buddy.proofs.Apart.{Lone, push-sound, take-sound, merge-sound, free_at-block, free_at-lone}

-- one turn of the rule: the buddy is taken out, and the two are merged
abbrev pub join : Heap → ℕ → ℕ → Heap
join h o c = merge (take h o (buddy c)) o (c / 2)

-- off the merged run it changes no tag
pub join-off : (h : Heap) (o c q : ℕ) → cell (suc o) q ≢ c / 2 → (join h o c).at q ≡ h.at q
unfolding merge take
join-off h o c q e = paint-out _ (suc o) (c / 2) (tag (suc o) used) q e
    ∙ paint-out h.at o (buddy c) (tag o used) q (λ x. e (omega (arith, cell-suc o q, buddy-half c)))

module _ (M : ℕ → Bool) (left : ℕ) (h : Heap) (o c : ℕ) where
  pub free_block-stop : free_at M h o (first o (buddy c)) ≡ false → free_block M (suc left) h o c ≡ push h o c
  unfolding free_block
  free_block-stop e = rw (e, free_block)

  pub free_block-up : free_at M h o (first o (buddy c)) ≡ true → free_block M (suc left) h o c ≡ free_block M left (join h o c) (suc o) (c / 2)
  unfolding free_block
  free_block-up e = rw (e, free_block)

-- from h to h' the run c of order o was freed: its pages are free, free pages stay free, and other pages out keep their tags
pub record Freed (M : ℕ → Bool) (n : ℕ) (h h' : Heap) (o c : ℕ) : Type 0 where
  pub sound : SoundHeap M n h'
  pub on : (q : ℕ) → cell o q ≡ c → (h'.at q).kind ≡ free
  pub stays : (q : ℕ) → (h.at q).kind ≡ free → (h'.at q).kind ≡ free
  pub others : (q : ℕ) → (h.at q).kind ≢ free → cell o q ≢ c → h'.at q ≡ h.at q

module _ {M : ℕ → Bool} {n : ℕ} where
  push-freed : {h : Heap} {o c : ℕ} → SoundHeap M n h → o ≤ 5 → BlockOut M h.at o c → Lone M h.at o c → Freed M n h (push h o c) o c
  unfolding push
  push-freed {h} {o} {c} s l out lone = record {
    sound = push-sound s l out lone;
    on = λ q e. kind-of (paint-in h.at o c (tag o free) q e);
    stays = λ q f. by_cases (ℕ_discrete (cell o q) c)
        (λ e. kind-of (paint-in h.at o c (tag o free) q e))
        (λ e. kind-of (paint-out h.at o c (tag o free) q e) ∙ f);
    others = λ q _ e. paint-out h.at o c (tag o free) q e;
  }

  module _ {h : Heap} {o c : ℕ} (bound : (p : ℕ) → T (M p) → p < n) (s : SoundHeap M n h) (below : o < 5) (out : BlockOut M h.at o c)
      (is : free_at M h o (first o (buddy c)) ≡ true) where
    pub buddy-free : FreeBlock M h.at o (buddy c)
    buddy-free = free_at-block s.core o (buddy c) is

    pub pair-out : BlocksOut M (take h o (buddy c)).at o (suc o) (c / 2)
    unfolding take
    pair-out = both_out (still-out o (buddy c) (tag o used) (λ q e x. buddy-not c (sym x ∙ e)) out) (take_out h buddy-free)

    pub join-out : BlockOut M (join h o c).at (suc o) (c / 2)
    join-out = merge-out (take h o (buddy c)) pair-out

    pub join-sound : SoundHeap M n (join h o c)
    join-sound = merge-sound bound (take-sound s (omega arith) buddy-free) below pair-out

    -- what frees the merged block frees the block
    join-freed : {h' : Heap} → (SoundHeap M n (join h o c) → BlockOut M (join h o c).at (suc o) (c / 2) → Freed M n (join h o c) h' (suc o) (c / 2))
        → Freed M n h h' o c
    join-freed {h'} above = record {
      sound = r.sound;
      on = λ q e. r.on q (omega (arith, cell-suc o q));
      stays = λ q f. by_cases (ℕ_discrete (cell (suc o) q) (c / 2)) (r.on q) (λ e. r.stays q (kind-of (join-off h o c q e) ∙ f));
      others = λ q b e. by_cases (ℕ_discrete (cell (suc o) q) (c / 2))
          (λ x. absurd (b (kind-of (buddy-free.is q (buddy-is o c q x e)))))
          (λ x. r.others q (λ f. b (sym (kind-of (join-off h o c q x)) ∙ f)) x ∙ join-off h o c q x);
    }
      where
        r : Freed M n (join h o c) h' (suc o) (c / 2)
        r = above join-sound join-out

  pub free-result : (bound : (p : ℕ) → T (M p) → p < n) (left : ℕ) (h : Heap) (o c : ℕ) → left + o ≡ 5 → SoundHeap M n h → BlockOut M h.at o c
      → Freed M n h (free_block M left h o c) o c
  unfolding free_block
  free-result bound zero h o c l s out = push-freed s (omega arith) out (λ b. absurd (omega arith))
  free-result bound (suc left) h o c l s out = by-test (free_at M h o (first o (buddy c)))
      (λ e. rw (free_block-up M left h o c e)
      (join-freed bound s (omega arith) out e (free-result bound left (join h o c) (suc o) (c / 2) (omega arith))))
      (λ e. rw (free_block-stop M left h o c e) (push-freed s (omega arith) out (free_at-lone s.core o c e)))
