-- Rule 5's exact effect: how far a freed block merges, and then every tag, every list and every count. It holds of every heap, sound or not.
use Rattle.common.specs.Kit.{ℕ, zero, suc, ◌+◌, ◌-◌, ◌*◌, ◌≤◌, ◌<◌, ◌≡◌, refl, sym, ap, ◌∙◌, ◌≢◌, by_cases, Bool, cond, ◌∷◌, le_refl, ℕ_discrete, arith}
use Rattle.common.specs.Numbers.{remove, one}
use Rattle.common.proofs.Tests.{by-test, by_two}
use Rattle.common.proofs.Lists.{update_same, update_other}
use Rattle.buddy.specs.Runs.{cell, first, start, buddy}
use Rattle.buddy.specs.Heap.{free, tag, Heap}
use Rattle.buddy.specs.Steps.{paint, push, take, merge}
use Rattle.buddy.specs.Rules.{free_at, free_block, span}
use Rattle.buddy.proofs.RunLaws.{cell-suc, cell-coarse, cell-first, buddy-not}
use Rattle.buddy.proofs.Paint.{paint-in, paint-out}
use Rattle.buddy.proofs.Spans.{span-in, span-out, span_same}
use Rattle.buddy.proofs.Free.{join, join-off, free_block-stop, free_block-up}

-- the order that the block of order o with page p in it comes to when it is freed: at every order below that, its buddy is free
unfoldable pub reached : (ℕ → Bool) → ℕ → Heap → ℕ → ℕ → ℕ
reached M zero h o p = o
reached M (suc left) h o p = cond (free_at M h o (first o (buddy (cell o p)))) (reached M left h (suc o) p) o

-- from h to h' the block of order o with page p in it was freed, and merged up to order j
pub record Joined (h h' : Heap) (o j p : ℕ) : Type 0 where
  pub up : o ≤ j
  -- the merged run is free, of order j; no other tag changes
  pub tags : (q : ℕ) → h'.at q ≡ paint h.at j (cell j p) (tag j free) q
  -- below order j the buddies are off their lists; the merged run is ahead of list j; no other list changes
  pub taken : (i : ℕ) → o ≤ i → i < j → h'.list i ≡ remove (first i (buddy (cell i p))) (h.list i)
  pub head : h'.list j ≡ start j p ∷ h.list j
  pub below : (i : ℕ) → i < o → h'.list i ≡ h.list i
  pub above : (i : ℕ) → j < i → h'.list i ≡ h.list i
  -- each merge makes one block of two
  pub counts : (i : ℕ) → h'.blocks i ≡ h.blocks i + one (span (suc o) (suc j) i) - one (span o j i) * 2

push-joined : (h : Heap) (o p : ℕ) → Joined h (push h o (cell o p)) o o p
unfolding push
push-joined h o p = record {
  up = le_refl o;
  tags = λ q. refl;
  taken = λ i a b. absurd (omega arith);
  head = update_same _ o _ o refl;
  below = λ i l. update_other _ o _ i (omega arith);
  above = λ i l. update_other _ o _ i (omega arith);
  counts = λ i. rw (span-out (suc o) (suc o) i (omega arith), span-out o o i (omega arith)) (omega arith);
}

-- one turn before it
join-joined : (h h' : Heap) (o j p : ℕ) → Joined (join h o (cell o p)) h' (suc o) j p → Joined h h' o j p
unfolding merge take
join-joined h h' o j p r = record {
  up = omega arith;
  tags = λ q. r.tags q ∙ by_cases (ℕ_discrete (cell j q) (cell j p))
      (λ e. paint-in _ j (cell j p) (tag j free) q e ∙ sym (paint-in h.at j (cell j p) (tag j free) q e))
      (λ e. paint-out _ j (cell j p) (tag j free) q e ∙ off q e ∙ sym (paint-out h.at j (cell j p) (tag j free) q e));
  taken = λ i a b. by_cases (ℕ_discrete i o)
      (λ e. rw e (r.below o (omega arith) ∙ update_same _ o _ o refl))
      (λ e. r.taken i (omega arith) b ∙ ap (remove (first i (buddy (cell i p)))) (update_other _ o _ i e));
  head = r.head ∙ ap (λ l. start j p ∷ l) (update_other _ o _ j (omega arith));
  below = λ i l. r.below i (omega arith) ∙ update_other _ o _ i (omega arith);
  above = λ i l. r.above i l ∙ update_other _ o _ i (omega arith);
  counts = λ i. r.counts i ∙ by_two i (suc o) o
      (λ e. rw (
        update_same,
        span-out (suc (suc o)) (suc j) i (omega arith),
        span-in (suc o) (suc j) i (omega arith) (omega arith),
        span_same (suc o) j i o j i (omega arith) (omega arith),
      ) (rw e (omega arith)))
      (λ e d. rw (
        update_other,
        update_same,
        span-out (suc (suc o)) (suc j) i (omega arith),
        span-out (suc o) j i (omega arith),
        span-out (suc o) (suc j) i (omega arith),
        span-in o j i (omega arith) (omega arith),
      ) (rw d (omega arith)))
      (λ e d. rw (
        update_other,
        update_other,
        span_same (suc (suc o)) (suc j) i (suc o) (suc j) i (omega arith) (omega arith),
        span_same (suc o) j i o j i (omega arith) (omega arith),
      ));
}
  where
    off : (q : ℕ) → cell j q ≢ cell j p → (join h o (cell o p)).at q ≡ h.at q
    off q e = join-off h o (cell o p) q (λ x. e (cell-coarse (suc o) j q p r.up (x ∙ sym (cell-suc o p))))

-- the turns above look only at pages off the merged run
reached-same : (M : ℕ → Bool) (left : ℕ) (h g : Heap) (o p : ℕ) → ((q : ℕ) → cell o q ≢ cell o p → g.at q ≡ h.at q)
    → reached M left g o p ≡ reached M left h o p
unfolding reached free_at
reached-same M zero h g o p off = refl
reached-same M (suc left) h g o p off = rw (
  off (first o (buddy (cell o p))) (λ e. buddy-not (cell o p) (sym (cell-first o _) ∙ e)),
  reached-same M left h g (suc o) p (λ q e. off q (λ x. e (cell-coarse o (suc o) q p (omega arith) x))),
)

-- rule 5 in full, a result
pub free-lists : (M : ℕ → Bool) (left : ℕ) (h : Heap) (o p : ℕ) → Joined h (free_block M left h o (cell o p)) o (reached M left h o p) p
unfolding free_block reached
free-lists M zero h o p = push-joined h o p
free-lists M (suc left) h o p = by-test (free_at M h o (first o (buddy (cell o p))))
    (λ e. rw (
      free_block-up M left h o (cell o p) e,
      e,
      ← reached-same M left h (join h o (cell o p)) (suc o) p
          (λ q x. join-off h o (cell o p) q (λ y. x (y ∙ sym (cell-suc o p)))),
    )
    (join-joined h _ o _ p (rw (cell-suc o p) at (free-lists M left (join h o (cell o p)) (suc o) p))))
    (λ e. rw (free_block-stop M left h o (cell o p) e, e) (push-joined h o p))
