-- To free a block just granted undoes the grant, lists included: rule 5 merges back what rule 4 split, and puts the block back at the head of
-- the list that it was taken from.
use Rattle.common.specs.Kit.{ℕ, zero, suc, ◌+◌, ◌-◌, ◌*◌, ◌/◌, ◌≤◌, ◌<◌, ◌≡◌, refl, sym, ◌∙◌, by_cases, Bool, true, false, List, ◌∷◌, T, zero-add, suc-add, ℕ_discrete, arith}
use Rattle.common.proofs.Tests.{by-test}
use Rattle.common.proofs.Lists.{update_same, update_other, remove-same}
use Rattle.buddy.specs.Runs.{cell, first, Head, buddy}
use Rattle.buddy.specs.Heap.{Kind, free, used, tag, FreeHead, Heap, Core, SoundHeap}
use Rattle.buddy.specs.Steps.{push, take, halve, merge, label}
use Rattle.buddy.specs.Rules.{Grant, granted, allocate, free_at, free_block}
use Rattle.buddy.proofs.RunLaws.{cell-first, cell-suc, cell-high, buddy-even, buddy-half, buddy-not}
use Rattle.buddy.proofs.Tags.{order-of}
use Rattle.buddy.proofs.Paint.{paint-in, paint-out}
use Rattle.buddy.proofs.Blocks.{count-whole}
use Rattle.buddy.proofs.Steps.{halve-out}
use Rattle.buddy.proofs.Apart.{take-sound, free_at-true, free_at-false}
use Rattle.buddy.proofs.Free.{join, join-off, free_block-stop, free_block-up}
use Rattle.buddy.proofs.Label.{label-off}
use Rattle.buddy.proofs.Refill.{never, heap-path, take-push, lower, upper-on, down, Allocated, none, some, allocated}
use Rattle.buddy.proofs.Grant.{InHand, hand-out, lower-sound, lower-hand, head-free, head-block, taken-hand}

-- a block is taken from the head of its list and put back
push-take : (h : Heap) (j p : ℕ) (ps : List ℕ) → h.list j ≡ p ∷ ps → Head j p → ((q : ℕ) → cell j q ≡ cell j p → h.at q ≡ tag j free)
    → push (take h j (cell j p)) j (cell j p) ≡ h
unfolding push take
push-take h j p ps e head is = heap-path _ h tags lists (λ _. refl)
  where
    tags : (q : ℕ) → (push (take h j (cell j p)) j (cell j p)).at q ≡ h.at q
    tags q = by_cases (ℕ_discrete (cell j q) (cell j p))
        (λ x. paint-in _ j (cell j p) (tag j free) q x ∙ sym (is q x))
        (λ x. paint-out _ j (cell j p) (tag j free) q x ∙ paint-out h.at j (cell j p) (tag j used) q x)

    left : (take h j (cell j p)).list j ≡ ps
    left = update_same _ j _ j refl ∙ rw (head, e) (remove-same p p ps refl)

    lists : (i : ℕ) → (push (take h j (cell j p)) j (cell j p)).list i ≡ h.list i
    lists i = by_cases (ℕ_discrete i j)
        (λ x. update_same _ j _ i x ∙ rw (left, head, x) (sym e))
        (λ x. update_other _ j _ i x ∙ update_other h.list j _ i x)

-- a block is split into two that are merged again
merge-halve : (h : Heap) (o c : ℕ) → ((q : ℕ) → cell (suc o) q ≡ c → h.at q ≡ tag (suc o) used) → 1 ≤ h.blocks (suc o) → merge (halve h o c) o c ≡ h
unfolding merge halve
merge-halve h o c is counted = heap-path _ h tags (λ _. refl) counts
  where
    tags : (q : ℕ) → (merge (halve h o c) o c).at q ≡ h.at q
    tags q = by_cases (ℕ_discrete (cell (suc o) q) c)
        (λ x. paint-in _ (suc o) c (tag (suc o) used) q x ∙ sym (is q x))
        (λ x. paint-out _ (suc o) c (tag (suc o) used) q x ∙ paint-out h.at (suc o) c (tag o used) q x)

    high : (halve h o c).blocks (suc o) ≡ h.blocks (suc o) - 1
    high = update_other _ o _ (suc o) (omega arith) ∙ update_same _ (suc o) _ (suc o) refl

    low : (halve h o c).blocks o ≡ h.blocks o + 2
    low = update_same _ o _ o refl

    counts : (i : ℕ) → (merge (halve h o c) o c).blocks i ≡ h.blocks i
    counts i = by_cases (ℕ_discrete i (suc o))
        (λ x. update_same _ (suc o) _ i x ∙ rw (high, x) (omega arith))
        (λ x. update_other _ (suc o) _ i x ∙ by_cases (ℕ_discrete i o)
        (λ y. update_same _ o _ i y ∙ rw (low, y) (omega arith))
        (λ y. update_other _ o _ i y ∙ update_other _ o _ i y ∙ update_other h.blocks (suc o) _ i x))

module _ {M : ℕ → Bool} {n : ℕ} (bound : (p : ℕ) → T (M p) → p < n) where
  -- a split and the turn of rule 5 that undoes it
  module _ (h : Heap) (k : Core M n h) (j c : ℕ) (valid : j < 5) (f : InHand M h.at (suc j) c) where
    some-blocks : 1 ≤ h.blocks (suc j)
    unfolding halve
    some-blocks = omega (
      arith,
      k.counted (suc j) valid,
      count-whole n j c bound (hand-out f).cut (halve-out h (hand-out f)).cut (λ q e. sym (order-of (paint-out h.at (suc j) c (tag j used) q e))),
    )

    join-lower : join (lower h j c) j (c * 2) ≡ h
    unfolding halve
    join-lower =
        let half : c * 2 / 2 ≡ c = omega arith in
        rw (buddy-even c, half, take-push (halve h j c) j (c * 2 + 1) (λ q e. paint-in h.at (suc j) c (tag j used) q (cell-high j c q e)))
        (merge-halve h j c f.is some-blocks)

    upper-free : free_at M (lower h j c) j (first j (buddy (c * 2))) ≡ true
    upper-free = rw (buddy-even c) (by-test (free_at M (lower h j c) j (first j (c * 2 + 1))) (λ e. e) (λ e. absurd (free_at-false M (lower h j c) j _ e
        (f.managed _ (cell-high j c _ (cell-first j (c * 2 + 1)))) (upper-on h j c _ (cell-first j (c * 2 + 1))))))

  -- to free what a split leaves in hand frees the whole block
  down-free : (o k : ℕ) (h : Heap) (c : ℕ) → k + o ≤ 5 → SoundHeap M n h → InHand M h.at (k + o) c
      → free_block M (5 - o) (down o k h c).0 o (down o k h c).1 ≡ free_block M (5 - (k + o)) h (k + o) c
  unfolding down
  down-free o zero h c valid s f = rw (zero-add o)
  down-free o (suc k) h c valid s f =
      let j = k + o in
      let l : k + o < 5 = omega arith in
      let hand : InHand M h.at (suc (k + o)) c = rw (suc-add k o) at f in
      let fuel : 5 - (k + o) ≡ suc (5 - suc (k + o)) = omega arith in
      let half : c * 2 / 2 ≡ c = omega arith in
      down-free o k (lower h j c) (c * 2) (omega arith) (lower-sound bound h j c l hand s) (lower-hand bound h j c l hand)
      ∙ rw (fuel, suc-add k o) (free_block-up M (5 - suc j) (lower h j c) j (c * 2) (upper-free h s.core j c l hand)
      ∙ rw (join-lower h s.core j c l hand, half))

  -- to free a block just taken puts it back: its buddy is not free, or the two would have been merged
  module _ (h : Heap) (s : SoundHeap M n h) (j p : ℕ) (ps : List ℕ) (e : h.list j ≡ p ∷ ps) where
    taken-lone : j < 5 → free_at M (take h j (cell j p)) j (first j (buddy (cell j p))) ≡ false
    unfolding take
    taken-lone l = by-test (free_at M (take h j (cell j p)) j b) (λ x. absurd (buddies (free_at-true M (take h j (cell j p)) j b x))) (λ x. x)
      where
        b : ℕ
        b = first j (buddy (cell j p))

        near : cell j b ≡ buddy (cell j p)
        near = cell-first j (buddy (cell j p))

        buddies : T (M b) × ((take h j (cell j p)).at b ≡ tag j free) → ⊥
        buddies t = buddy-not (cell j p) (sym near ∙ s.apart j b p l t.0 f.managed
            (sym (paint-out h.at j (cell j p) (tag j used) b (λ x. buddy-not (cell j p) (sym near ∙ x))) ∙ t.1) f.is
            (omega (arith, near, cell-suc j b, cell-suc j p, buddy-half (cell j p))))
          where
            f : FreeHead M h.at j p
            f = head-free s j p ps (omega arith) e

    taken-stop : (left : ℕ) → left + j ≡ 5 → free_block M left (take h j (cell j p)) j (cell j p) ≡ push (take h j (cell j p)) j (cell j p)
    unfolding free_block
    taken-stop zero _ = refl
    taken-stop (suc left) l = free_block-stop M left _ j (cell j p) (taken-lone (omega arith))

    free-taken : j ≤ 5 → free_block M (5 - j) (take h j (cell j p)) j (cell j p) ≡ h
    free-taken l = taken-stop (5 - j) (omega arith) ∙ push-take h j p ps e (head-free s j p ps l e).head (head-block s j p ps l e).is

  pub grant-freed : (h : Heap) → SoundHeap M n h → (o : ℕ) (g : Heap) (c : ℕ) → allocate h o ≡ granted g c → free_block M (5 - o) g o c ≡ h
  grant-freed h s o g c e = go (allocate h o) (allocated h o) e
    where
      go : (a : Grant) → Allocated h o a → a ≡ granted g c → free_block M (5 - o) g o c ≡ h
      go _ (none _) x = never (cc)
      go _ (some k p ps l is _) x =
          let d = down o k (take h (k + o) (cell (k + o) p)) (cell (k + o) p) in
          let eh : d.0 ≡ g = cc in
          let ec : d.1 ≡ c = cc in
          rw (← eh, ← ec)
          (down-free o k _ (cell (k + o) p) l (take-sound s l (head-block s (k + o) p ps l is)) (taken-hand s (k + o) p ps l is)
          ∙ free-taken h s (k + o) p ps is l)

-- a free forgets what kind the block was out as
module _ (M : ℕ → Bool) (k : Kind) where
  label-test : (h : Heap) (o c : ℕ) → free_at M (label h o c k) o (first o (buddy c)) ≡ free_at M h o (first o (buddy c))
  unfolding free_at
  label-test h o c = rw (label-off h o c k (first o (buddy c)) (λ e. buddy-not c (sym (cell-first o (buddy c)) ∙ e)))

  label-join : (h : Heap) (o c : ℕ) → join (label h o c k) o c ≡ join h o c
  unfolding merge take label
  label-join h o c = heap-path _ _
      (λ q. by_cases (ℕ_discrete (cell (suc o) q) (c / 2))
      (λ e. paint-in _ (suc o) (c / 2) (tag (suc o) used) q e ∙ sym (paint-in _ (suc o) (c / 2) (tag (suc o) used) q e))
      (λ e. join-off (label h o c k) o c q e ∙ label-off h o c k q (λ x. e (omega (arith, cell-suc o q))) ∙ sym (join-off h o c q e)))
      (λ _. refl) (λ _. refl)

  label-push : (h : Heap) (o c : ℕ) → push (label h o c k) o c ≡ push h o c
  unfolding push label
  label-push h o c = heap-path _ _
      (λ q. by_cases (ℕ_discrete (cell o q) c)
      (λ e. paint-in _ o c (tag o free) q e ∙ sym (paint-in _ o c (tag o free) q e))
      (λ e. paint-out _ o c (tag o free) q e ∙ label-off h o c k q e ∙ sym (paint-out _ o c (tag o free) q e)))
      (λ _. refl) (λ _. refl)

  pub free-label : (left : ℕ) (h : Heap) (o c : ℕ) → free_block M left (label h o c k) o c ≡ free_block M left h o c
  unfolding free_block
  free-label zero h o c = label-push h o c
  free-label (suc left) h o c = by-test (free_at M h o (first o (buddy c)))
      (λ e. free_block-up M left _ o c (label-test h o c ∙ e) ∙ rw (label-join h o c) (sym (free_block-up M left h o c e)))
      (λ e. free_block-stop M left _ o c (label-test h o c ∙ e) ∙ label-push h o c ∙ sym (free_block-stop M left h o c e))
