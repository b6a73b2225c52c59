-- Whether a block's buddy is Free of its order, by the word and by the heap; and to take such a buddy out and merge is the heap's join.
use Rattle.common.specs.Kit.{ℕ, suc, ◌/◌, ◌≤◌, ◌<◌, ◌≡◌, refl, sym, ap, ◌∙◌, by_cases, Bool, true, false≢true, T, ltb, dec_lt, arith, eq-eqb, lt-ltb, eqb-true, ltb-true}
use Rattle.common.proofs.Tests.{by-test}
use Rattle.buddy.specs.Runs.{first, buddy}
use Rattle.buddy.specs.Heap.{FreeHead, Heap}
use Rattle.buddy.specs.Steps.{take}
use Rattle.buddy.specs.Rules.{free_at}
use Rattle.buddy.proofs.RunLaws.{head_first}
use Rattle.buddy.proofs.Paint.{BlocksOut, FreeBlock}
use Rattle.buddy.proofs.Apart.{free_at-true, free_at-false}
use Rattle.buddy.proofs.Free.{join}
use Rattle.pages.specs.Said.{said}
use Rattle.pages.specs.Meaning.{free_order}
use Rattle.region.specs.Layout.{end_of}
use Rattle.region.specs.Pages.{buddy_of}
use Rattle.region.specs.State.{State, pull, PullOk, lower, merge as merge_state, MergeOk}
use Rattle.region.specs.Steps.{neighbor, joins, join as join_state}
use Rattle.refine.specs.Image.{region_of, words_of, image}
use Rattle.region.specs.declared.HeapMemoryRegion.{HeapMemoryRegion}
use Rattle.refine.specs.Fit.{Fits}
use Rattle.refine.proofs.Shown.{shown-meta, off-shown, words-say}
use Rattle.refine.proofs.WordsSay.{image-says, says-free, free-told}
use Rattle.refine.proofs.Buddies.{buddy-page}
use Rattle.refine.proofs.Halves.{lower-page}
use Rattle.refine.proofs.Step.{Lent, Step}
use Rattle.refine.proofs.Pull.{Pulls, pull-image}
use Rattle.refine.proofs.Merge.{merge-image}

-- what makes a join safe
pub record JoinOk (p o : ℕ) (s : State) : Type 0 where
  pub pulled : PullOk (buddy_of o p) o s
  pub merged : MergeOk p (buddy_of o p) o (pull (buddy_of o p) o s)

module _ {M : ℕ → Bool} {r : HeapMemoryRegion} {h : Heap} (f : Fits M r h) (lent : Lent r) where
  -- a page of no block never says Free
  off-said : (q : ℕ) → (T (M q) → ⊥) → q < r.page_count → free_order (said (words_of r h) q) ≡ 6
  off-said q out l = ap free_order (words-say f lent q l) ∙ by_cases (dec_lt q (end_of r))
      (λ y. rw (off-shown f q out y))
      (λ y. rw (shown-meta (end_of r) h q (omega arith)))

  free-said : (o q : ℕ) → o ≤ 5 → q < r.page_count → free_order (said (words_of r h) q) ≡ o → FreeHead M h.at o q
  free-said o q valid l e = by-test (M q)
      (λ m. free-told (image-says f lent) f.core.tiled o q (omega arith) (rw m tt) e)
      (λ m. absurd (omega (arith, off-said q (λ t. rw m at t) l)))

  module _ (o p : ℕ) where
    pub joins_true : joins p o (image r h) ≡ true → (o < 5) × FreeHead M h.at o (buddy_of o p)
    unfolding joins neighbor region_of
    joins_true e = by-test (ltb o 5)
        (λ x. by-test (ltb (buddy_of o p) r.page_count)
        (λ y. (ltb-true o 5 x, free-said o (buddy_of o p) (omega (arith, ltb-true o 5 x)) (ltb-true _ _ y) (eqb-true _ _ (rw (x, y) at e))))
        (λ y. absurd (false≢true (rw (x, y) at e))))
        (λ x. absurd (false≢true (rw x at e)))

    pub joins-free : o < 5 → FreeHead M h.at o (buddy_of o p) → joins p o (image r h) ≡ true
    unfolding joins neighbor region_of
    joins-free valid b =
        let l : buddy_of o p < r.page_count = omega (arith, f.within (buddy_of o p) b.managed) in
        rw (lt-ltb o 5 valid, lt-ltb (buddy_of o p) r.page_count l, says-free (image-says f lent) b, eq-eqb o o refl)

  pub joins-image : (o c : ℕ) → o < 5 → joins (first o c) o (image r h) ≡ free_at M h o (first o (buddy c))
  joins-image o c valid = by-test (free_at M h o (first o (buddy c)))
      (λ e. let t = free_at-true M h o (first o (buddy c)) e in
      joins-free o (first o c) valid (rw (buddy-page o c) (record { managed = t.0; is = t.1; head = head_first o (buddy c) })) ∙ sym e)
      (λ e. by-test (joins (first o c) o (image r h))
      (λ x. let b = rw (buddy-page o c) at (joins_true o (first o c) x).1 in absurd (free_at-false M h o (first o (buddy c)) e b.managed b.is))
      (λ x. x ∙ sym e))

  -- the buddy of run c is free, and once it is taken both are out
  pub join-image : (o c : ℕ) → o < 5 → FreeBlock M h.at o (buddy c) → BlocksOut M (take h o (buddy c)).at o (suc o) (c / 2)
      → Step M r (JoinOk (first o c) o (image r h)) (join_state (first o c) o (image r h)) (join h o c)
  unfolding join_state
  join-image o c valid b pair = record {
    ok = record { pulled = rw (buddy-page o c) t.ok; merged = rw same u.ok };
    leaves = rw same u.leaves;
    fits = u.fits;
  }
    where
      t : Pulls M r h (first o (buddy c)) o (take h o (buddy c))
      t = pull-image f lent b

      same : pull (buddy_of o (first o c)) o (image r h) ≡ image r (take h o (buddy c))
      same = rw (buddy-page o c) t.leaves

      u : Step M r (MergeOk (first o c) (buddy_of o (first o c)) o (image r (take h o (buddy c))))
          (merge_state (lower (first o c) (buddy_of o (first o c))) o (image r (take h o (buddy c)))) (join h o c)
      u = merge-image t.fits lent valid pair (first o c) (buddy_of o (first o c)) (lower-page o c)
