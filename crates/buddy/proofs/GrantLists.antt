-- Rule 4's exact effect: from which list the block comes, and then every tag, every list and every count.
use Rattle.common.specs.Kit.{ℕ, zero, suc, ◌+◌, ◌-◌, ◌*◌, ◌≤◌, ◌<◌, ◌≡◌, refl, sym, ap, ◌∙◌, ◌≢◌, by_cases, List, [], ◌∷◌, zero-add, suc-add, ℕ_discrete, arith}
use Rattle.common.specs.Numbers.{one}
use Rattle.common.proofs.Lists.{update_same, update_other, remove-same}
use Rattle.buddy.specs.Runs.{cell, first, Head, buddy}
use Rattle.buddy.specs.Heap.{free, used, tag, Heap}
use Rattle.buddy.specs.Steps.{push, take, halve}
use Rattle.buddy.specs.Rules.{span}
use Rattle.buddy.proofs.RunLaws.{cell-suc, cell-first, first-suc, buddy-even, buddy-not}
use Rattle.buddy.proofs.Paint.{paint-in, paint-out}
use Rattle.buddy.proofs.Spans.{span-in, span-out, span_same}
use Rattle.buddy.proofs.Refill.{push-head, push-other, lower, lower-on, upper-on, lower-off, down}

-- from the heap h the block of order j at page p, in hand, was split down to order o, and r is the heap and the block then in hand
record Split (h : Heap) (r : Heap × ℕ) (o j p : ℕ) : Type 0 where
  head : Head o p
  hand : r.1 ≡ cell o p
  on : (q : ℕ) → cell o q ≡ cell o p → r.0.at q ≡ tag o used
  upper : (i q : ℕ) → o ≤ i → i < j → cell i q ≡ buddy (cell i p) → r.0.at q ≡ tag i free
  off : (q : ℕ) → cell j q ≢ cell j p → r.0.at q ≡ h.at q
  halves : (i : ℕ) → o ≤ i → i < j → r.0.list i ≡ first i (buddy (cell i p)) ∷ h.list i
  others : (i : ℕ) → (o ≤ i → i < j → ⊥) → r.0.list i ≡ h.list i
  counts : (i : ℕ) → r.0.blocks i ≡ h.blocks i + one (span o j i) * 2 - one (span (suc o) (suc j) i)

-- one split before it
module _ (h : Heap) (o j p : ℕ) (down_to : o ≤ j) (even : cell j p ≡ cell (suc j) p * 2) where
  abbrev c : ℕ
  c = cell (suc j) p

  lower-split : {r : Heap × ℕ} → Split (lower h j c) r o j p → Split h r o (suc j) p
  unfolding push halve
  lower-split r = record {
    head = r.head;
    hand = r.hand;
    on = r.on;
    upper = λ i q a b e. by_cases (ℕ_discrete i j)
        (λ x. rw x (r.off q (λ y. buddy-not (cell j p) (sym (rw x at e) ∙ y)) ∙ upper-on h j c q (rw x at e ∙ rw even (buddy-even c))))
        (λ x. r.upper i q a (omega arith) e);
    off = λ q e. r.off q (λ x. e (omega (arith, cell-suc j q, cell-suc j p))) ∙ lower-off h j c q e;
    halves = λ i a b. by_cases (ℕ_discrete i j)
        (λ x. r.others i (λ _ y. omega arith) ∙ rw (x, even, buddy-even c) (push-head (halve h j c) j (c * 2 + 1)))
        (λ x. r.halves i a (omega arith) ∙ ap (λ l. first i (buddy (cell i p)) ∷ l) (push-other (halve h j c) j (c * 2 + 1) i x));
    others = λ i off. r.others i (λ a b. off a (omega arith)) ∙ push-other (halve h j c) j (c * 2 + 1) i (λ x. off (omega arith) (omega arith));
    counts = λ i. r.counts i ∙ by_cases (ℕ_discrete i j)
        (λ x. rw (
          update_same,
          span-out o j i (omega arith),
          span-in o (suc j) i (omega arith) (omega arith),
          span_same (suc o) (suc j) i (suc o) (suc (suc j)) i (omega arith) (omega arith),
        ) (rw x (omega arith)))
        (λ x. by_cases (ℕ_discrete i (suc j))
        (λ y. rw (
          update_other,
          update_same,
          span-out o j i (omega arith),
          span-out (suc o) (suc j) i (omega arith),
          span-out o (suc j) i (omega arith),
          span-in (suc o) (suc (suc j)) i (omega arith) (omega arith),
        ) (rw y (omega arith)))
        (λ y. rw (
          update_other,
          update_other,
          span_same o j i o (suc j) i (omega arith) (omega arith),
          span_same (suc o) (suc j) i (suc o) (suc (suc j)) i (omega arith) (omega arith),
        )));
  }

down-split : (o k : ℕ) (h : Heap) (p : ℕ) → Head (k + o) p → ((q : ℕ) → cell (k + o) q ≡ cell (k + o) p → h.at q ≡ tag (k + o) used)
    → Split h (down o k h (cell (k + o) p)) o (k + o) p
unfolding down
down-split o zero h p head is = rw (zero-add o) (record {
  head = rw (zero-add o) at head;
  hand = refl;
  on = rw (zero-add o) at is;
  upper = λ i q a b. absurd (omega arith);
  off = λ q _. refl;
  halves = λ i a b. absurd (omega arith);
  others = λ i _. refl;
  counts = λ i. rw (span-out o o i (omega arith), span-out (suc o) (suc o) i (omega arith)) (omega arith);
})
down-split o (suc k) h p head is =
    let j = k + o in
    let c = cell (suc j) p in
    let start : first j (c * 2) ≡ p = sym (first-suc j c) ∙ (rw (suc-add k o) at head) in
    let even : c * 2 ≡ cell j p = sym (cell-first j (c * 2)) ∙ ap (cell j) start in
    rw (suc-add k o) (lower-split h o j p (omega arith) (sym even)
    (rw (← even) at (down-split o k (lower h j c) p (rw (← even) start) (λ q e. lower-on h j c q (e ∙ sym even)))))

-- from h to g the block of order o at page p was granted, from the block of order j at the head of its list
pub record Parted (h g : Heap) (o j p : ℕ) : Type 0 where
  pub valid : (o ≤ j) × (j ≤ 5)
  -- list j was the lowest from o on that was not empty, and p is off it
  pub empty : (i : ℕ) → o ≤ i → i < j → h.list i ≡ []
  pub taken : h.list j ≡ p ∷ g.list j
  -- below it, each list holds the upper half that was split off at its order: the buddy of p's run; no other list changes
  pub halves : (i : ℕ) → o ≤ i → i < j → g.list i ≡ first i (buddy (cell i p)) ∷ []
  pub below : (i : ℕ) → i < o → g.list i ≡ h.list i
  pub above : (i : ℕ) → j < i → g.list i ≡ h.list i
  -- the block granted is out, the upper halves are free, and no other tag changes
  pub on : (q : ℕ) → cell o q ≡ cell o p → g.at q ≡ tag o used
  pub upper : (i q : ℕ) → o ≤ i → i < j → cell i q ≡ buddy (cell i p) → g.at q ≡ tag i free
  pub off : (q : ℕ) → cell j q ≢ cell j p → g.at q ≡ h.at q
  -- each split makes two blocks of one
  pub counts : (i : ℕ) → g.blocks i ≡ h.blocks i + one (span o j i) * 2 - one (span (suc o) (suc j) i)

-- the head p of list k + o is taken and split down
module _ (h : Heap) (o k p : ℕ) (ps : List ℕ) (l : k + o ≤ 5) (head : Head (k + o) p) (e : h.list (k + o) ≡ p ∷ ps)
    (none : (i : ℕ) → o ≤ i → i < k + o → h.list i ≡ []) where
  abbrev j : ℕ
  j = k + o

  abbrev taken : Heap
  taken = take h j (cell j p)

  split : Split taken (down o k taken (cell j p)) o j p
  unfolding take
  split = down-split o k taken p head (paint-in h.at j (cell j p) (tag j used))

  pub down-cell : (down o k taken (cell j p)).1 ≡ cell o p
  down-cell = split.hand

  pub down-head : Head o p
  down-head = split.head

  taken-list : taken.list j ≡ ps
  unfolding take
  taken-list = update_same _ j _ j refl ∙ rw (head, e) (remove-same p p ps refl)

  taken-other : (i : ℕ) → i ≢ j → taken.list i ≡ h.list i
  unfolding take
  taken-other i x = update_other _ j _ i x

  pub down-parted : Parted h (down o k taken (cell j p)).0 o j p
  unfolding take
  down-parted = record {
    valid = (omega arith, l);
    empty = none;
    taken = e ∙ ap (λ x. p ∷ x) (sym (split.others j (omega arith) ∙ taken-list));
    halves = λ i a b. split.halves i a b ∙ ap (λ x. first i (buddy (cell i p)) ∷ x) (taken-other i (omega arith) ∙ none i a b);
    below = λ i a. split.others i (omega arith) ∙ taken-other i (omega arith);
    above = λ i a. split.others i (omega arith) ∙ taken-other i (omega arith);
    on = split.on;
    upper = split.upper;
    off = λ q x. split.off q x ∙ paint-out h.at j (cell j p) (tag j used) q x;
    counts = split.counts;
  }
