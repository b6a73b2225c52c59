-- Every single step keeps the core of soundness: the tiling, the lists, the counts.
use Rattle.common.specs.Kit.{ℕ, suc, ◌≤◌, ◌<◌, ◌≡◌, refl, sym, ◌∙◌, ◌≢◌, ⊎_elim, by_cases, Bool, List, ◌∷◌, mem-head, mem-tail, mem-cases, T, le_refl, ℕ_discrete, arith}
use Rattle.common.specs.Numbers.{remove}
use Rattle.common.proofs.Tests.{by_two}
use Rattle.common.proofs.Lists.{update_same, update_other, mem-of-remove, not-removed, mem-remove, once-remove}
use Rattle.buddy.specs.Runs.{cell, first}
use Rattle.buddy.specs.Heap.{free, used, Tag, tag, FreeHead, Listed, Heap, Core}
use Rattle.buddy.specs.Steps.{paint, push, take, halve, merge}
use Rattle.buddy.proofs.RunLaws.{cell-first, head_first, head-is}
use Rattle.buddy.proofs.Tags.{order-of, kind-of, used≢free}
use Rattle.buddy.proofs.Paint.{paint-in, paint-out, Cut, BlocksOut, BlockOut, FreeBlock, free-cut, painted-out, recut-tiled}
use Rattle.buddy.proofs.Blocks.{paint-count, count-whole, count-half, count-other}

-- The lists, when the run c of order o is painted with the tag v. M', managed from then on, is M off the run.
module _ {M M' : ℕ → Bool} (at : ℕ → Tag) (o c : ℕ) (v : Tag) (same : (q : ℕ) → cell o q ≢ c → M' q ≡ M q) where
  -- free heads off the run are the same
  head-new : (j q : ℕ) → cell o q ≢ c → FreeHead M at j q → FreeHead M' (paint at o c v) j q
  head-new j q e f = record { managed = rw (same q e) f.managed; is = paint-out at o c v q e ∙ f.is; head = f.head }

  head-old : (j q : ℕ) → cell o q ≢ c → FreeHead M' (paint at o c v) j q → FreeHead M at j q
  head-old j q e f = record { managed = rw (same q e) at f.managed; is = sym (paint-out at o c v q e) ∙ f.is; head = f.head }

  -- no free block of order j on the run, neither before nor after
  pub keep-listed : (j : ℕ) (l : List ℕ) → ((q : ℕ) → cell o q ≡ c → FreeHead M at j q → ⊥) → v ≢ tag j free → Listed M at j l
      → Listed M' (paint at o c v) j l
  keep-listed j l none other k = record {
    sound = λ p x. let f = k.sound p x in head-new j p (λ e. none p e f) f;
    full = λ p f. k.full p (head-old j p (λ e. other (sym (paint-in at o c v p e) ∙ f.is)) f);
    once = k.once;
  }

  -- the free block is taken off
  take-listed : (l : List ℕ) → v ≢ tag o free → Listed M at o l → Listed M' (paint at o c v) o (remove (first o c) l)
  take-listed l other k = record {
    sound = λ p x. let f = k.sound p (mem-of-remove (first o c) p l x) in
        head-new o p (λ e. not-removed (first o c) l k.once (rw (head-is o c p f.head e) at x)) f;
    full = λ p f. mem-remove (first o c) p l (λ e. off p f (rw e (cell-first o c))) (k.full p (head-old o p (off p f) f));
    once = once-remove (first o c) l k.once;
  }
    where
      off : (p : ℕ) → FreeHead M' (paint at o c v) o p → cell o p ≢ c
      off p f e = other (sym (paint-in at o c v p e) ∙ f.is)

-- no free head lies on a run of blocks out
no-head : {M : ℕ → Bool} {at : ℕ → Tag} {i o c : ℕ} → BlocksOut M at i o c → (j q : ℕ) → cell o q ≡ c → FreeHead M at j q → ⊥
no-head out j q e f = out.busy q e (kind-of f.is)

module _ {M : ℕ → Bool} {n : ℕ} {h : Heap} {o c : ℕ} (k : Core M n h) where
  -- blocks out are painted with a tag that is not free: the lists stay
  pub quiet-listed : {i : ℕ} (v : Tag) → BlocksOut M h.at i o c → v.kind ≢ free → (j : ℕ) → j ≤ 5 → Listed M (paint h.at o c v) j (h.list j)
  quiet-listed v out busy j l = keep-listed h.at o c v (λ _ _. refl) j (h.list j) (no-head out j) (λ x. busy (kind-of x)) (k.listed j l)

  push-listed : o ≤ 5 → BlockOut M h.at o c → Listed M (paint h.at o c (tag o free)) o (first o c ∷ h.list o)
  push-listed valid out = record {
    sound = λ p x. ⊎_elim
        (λ e. rw e here)
        (λ y. let f = l.sound p y in head-new at o c v (λ _ _. refl) o p (λ e. no-head out o p e f) f)
        (mem-cases x);
    full = λ p f. by_cases (ℕ_discrete (cell o p) c)
        (λ e. mem-head (head-is o c p f.head e))
        (λ e. mem-tail (l.full p (head-old at o c v (λ _ _. refl) o p e f)));
    once = (λ x. no-head out o (first o c) (cell-first o c) (l.sound _ x), l.once);
  }
    where
      at : ℕ → Tag
      at = h.at

      v : Tag
      v = tag o free

      l : Listed M at o (h.list o)
      l = k.listed o valid

      here : FreeHead M (paint at o c v) o (first o c)
      here = record { managed = out.cut.managed _ (cell-first o c); is = paint-in at o c v _ (cell-first o c); head = head_first o c }

  -- the block out becomes free
  pub push-core : o ≤ 5 → BlockOut M h.at o c → Core M n (push h o c)
  unfolding push
  push-core valid out = record {
    tiled = recut-tiled o o o c free k.tiled out.cut (le_refl o) valid (le_refl o);
    listed = λ j l. by_cases (ℕ_discrete j o)
        (λ e. rw update_same (rw e (push-listed valid out)))
        (λ e. rw update_other
        (keep-listed h.at o c (tag o free) (λ _ _. refl) j (h.list j) (no-head out j) (λ x. e (sym (order-of x))) (k.listed j l)));
    counted = λ j l. k.counted j l ∙ paint-count M n h.at o c (tag o free) out.cut.order j;
  }

  -- the free block is out
  pub take-core : o ≤ 5 → FreeBlock M h.at o c → Core M n (take h o c)
  unfolding take
  take-core valid f = record {
    tiled = recut-tiled o o o c used k.tiled (free-cut f) (le_refl o) valid (le_refl o);
    listed = λ j l. by_cases (ℕ_discrete j o)
        (λ e. rw update_same (rw e (take-listed h.at o c v (λ _ _. refl) (h.list o) (λ x. used≢free (kind-of x)) (k.listed o valid))))
        (λ e. rw update_other (keep-listed h.at o c v (λ _ _. refl) j (h.list j) (other j e) (λ x. used≢free (kind-of x)) (k.listed j l)));
    counted = λ j l. k.counted j l ∙ paint-count M n h.at o c v (free-cut f).order j;
  }
    where
      v : Tag
      v = tag o used

      other : (j : ℕ) → j ≢ o → (q : ℕ) → cell o q ≡ c → FreeHead M h.at j q → ⊥
      other j e q x g = e (order-of (sym g.is ∙ f.is q x))

-- what is out after a step
module _ {M : ℕ → Bool} (h : Heap) {o c : ℕ} where
  pub take_out : FreeBlock M h.at o c → BlockOut M (take h o c).at o c
  unfolding take
  take_out f = painted-out h.at o o c used f.managed used≢free

  pub halve-out : BlockOut M h.at (suc o) c → BlocksOut M (halve h o c).at o (suc o) c
  unfolding halve
  halve-out out = painted-out h.at o (suc o) c used out.cut.managed used≢free

  pub merge-out : BlocksOut M h.at o (suc o) c → BlockOut M (merge h o c).at (suc o) c
  unfolding merge
  merge-out out = painted-out h.at (suc o) (suc o) c used out.cut.managed used≢free

module _ {M : ℕ → Bool} {n : ℕ} {h : Heap} {o c : ℕ} (bound : (p : ℕ) → T (M p) → p < n) (k : Core M n h) (valid : o < 5) where
  -- the block out of order o + 1 becomes two
  pub halve-core : BlockOut M h.at (suc o) c → Core M n (halve h o c)
  unfolding halve
  halve-core out = record {
    tiled = recut-tiled (suc o) o (suc o) c used k.tiled out.cut (le_refl (suc o)) (omega arith) (omega arith);
    listed = quiet-listed k (tag o used) out used≢free;
    counted = λ j l. by_two j o (suc o)
        (λ e. rw update_same (rw e (omega (arith, k.counted o (omega arith), count-half n o c bound whole halves off))))
        (λ e d. rw (update_other, update_same) (rw d (omega (arith, k.counted (suc o) valid, count-whole n o c bound whole halves off))))
        (λ e d. rw (update_other, update_other) (k.counted j l ∙ count-other n o c bound whole halves off j e d));
  }
    where
      whole : Cut M h.at (suc o) (suc o) c
      whole = out.cut

      halves : Cut M (halve h o c).at o (suc o) c
      halves = (halve-out h out).cut

      off : (q : ℕ) → cell (suc o) q ≢ c → (h.at q).order ≡ ((halve h o c).at q).order
      off q e = sym (order-of (paint-out h.at (suc o) c (tag o used) q e))

  -- the two blocks out of order o become one
  pub merge-core : BlocksOut M h.at o (suc o) c → Core M n (merge h o c)
  unfolding merge
  merge-core out = record {
    tiled = recut-tiled o (suc o) (suc o) c used k.tiled out.cut (omega arith) valid (le_refl (suc o));
    listed = quiet-listed k (tag (suc o) used) out used≢free;
    counted = λ j l. by_two j (suc o) o
        (λ e. rw update_same (rw e (omega (arith, k.counted (suc o) valid, count-whole n o c bound whole halves off))))
        (λ e d. rw (update_other, update_same) (rw d (omega (arith, k.counted o (omega arith), count-half n o c bound whole halves off))))
        (λ e d. rw (update_other, update_other) (k.counted j l ∙ sym (count-other n o c bound whole halves off j d e)));
  }
    where
      whole : Cut M (merge h o c).at (suc o) (suc o) c
      whole = (merge-out h out).cut

      halves : Cut M h.at o (suc o) c
      halves = out.cut

      off : (q : ℕ) → cell (suc o) q ≢ c → ((merge h o c).at q).order ≡ (h.at q).order
      off q e = order-of (paint-out h.at (suc o) c (tag (suc o) used) q e)
