-- What the list steps do to the lists: the head is taken and the rest stays; a block that is not found leaves everything.
-- These are results.
use Rattle.common.specs.Kit.{ℕ, ◌+◌, ◌≤◌, ◌≡◌, refl, ◌∙◌, ◌≢◌, Bool, true, false, true≢false, List, ◌∷◌, mem-head, eqb, arith, Option, Some, None}
use Rattle.common.proofs.Tests.{by-test}
use Rattle.common.proofs.Lists.{update_same, update_other, remove-same}
use Rattle.words.specs.Word.{no_page}
use Rattle.buddy.specs.Runs.{cell}
use Rattle.buddy.specs.Heap.{Heap}
use Rattle.buddy.specs.Steps.{take}
use Rattle.region.specs.State.{State, head_in, frees_in, head_taken, take_head, if_at, cut, before, pull, pulls}
use Rattle.refine.specs.Image.{image}
use Rattle.region.specs.declared.HeapMemoryRegion.{HeapMemoryRegion}
use Rattle.refine.specs.Fit.{Fits}
use Rattle.refine.proofs.Step.{Lent}
use Rattle.refine.proofs.Record.{frees-image}
use Rattle.refine.proofs.Listed.{list-free}
use Rattle.refine.proofs.Take.{Takes, take-image}

-- get_next_page on a list with head p and the rest ps
pub record Popped (r : HeapMemoryRegion) (h : Heap) (o p : ℕ) (ps : List ℕ) : Type 0 where
  pub answers : head_taken o (image r h) ≡ Some p
  pub leaves : take_head o (image r h) ≡ image r (take h o (cell o p))
  pub list : (take h o (cell o p)).list o ≡ ps
  pub others : (j : ℕ) → j ≢ o → (take h o (cell o p)).list j ≡ h.list j
  pub frees : frees_in (take_head o (image r h)) o + 1 ≡ frees_in (image r h) o

pub take-popped : {M : ℕ → Bool} {r : HeapMemoryRegion} {h : Heap} → Fits M r h → Lent r → (o : ℕ) → o ≤ 5 → (p : ℕ) (ps : List ℕ)
    → h.list o ≡ p ∷ ps → Popped r h o p ps
unfolding take
take-popped {M} {r} {h} f lent o valid p ps e = record {
  answers = t.answers;
  leaves = t.leaves;
  list = left;
  others = λ j ne. update_other h.list o _ j ne;
  frees = rw (t.leaves, frees-image r (take h o (cell o p)) o (omega arith), frees-image r h o (omega arith), left, e) (omega arith);
}
  where
    t : Takes M r h o (Some p) (take h o (cell o p))
    t = take-image f lent o valid p ps e

    left : (take h o (cell o p)).list o ≡ ps
    left = update_same h.list o _ o refl
        ∙ rw (e, (list-free f o p valid (rw e (mem-head refl))).head) (remove-same p p ps refl)

-- allocate_pfn that finds nothing
pub pull-kept : (p o : ℕ) (s : State) → pulls p o s ≡ false → pull p o s ≡ s
unfolding pull pulls
pull-kept p o s e = by-test (eqb (head_in s o) no_page)
    (λ a. rw a)
    (λ a. by-test (eqb (head_in s o) p)
    (λ b. absurd (true≢false (rw (a, b) at e)))
    (λ b. rw (a, b) (walked (before p o s) (rw (a, b) at e))))
  where
    walked : (x : Option ℕ) → if_at x (λ b. true) false ≡ false → if_at x (λ b. cut b p o s) s ≡ s
    walked (Some b) f = absurd (true≢false f)
    walked None f = refl
