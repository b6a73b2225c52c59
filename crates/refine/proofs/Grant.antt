-- Rule 4 on record and words is rule 4 on the heap: the list asked for is refilled, its head is granted, and its word is written last.
use Rattle.common.specs.Kit.{ℕ, ◌≤◌, ◌≡◌, refl, sym, ◌∙◌, subst, ◌≢◌, Bool, [], mem-head, arith, Some, None}
use Rattle.words.specs.declared.word.PageInfo.{PageInfo}
use Rattle.buddy.specs.Runs.{cell, first}
use Rattle.buddy.specs.Heap.{Kind, free, used, Heap}
use Rattle.buddy.specs.Steps.{take, label}
use Rattle.buddy.specs.Rules.{Grant, refused, granted, grant_head, allocate}
use Rattle.buddy.proofs.Refill.{Allocated, none, some, allocated, refill-down}
use Rattle.buddy.proofs.Grant.{InHand, hand-out, Answers, allocate-answers}
use Rattle.pages.specs.Info.{allocated_info}
use Rattle.region.specs.Layout.{end_of}
use Rattle.region.specs.Steps.{write, refill as refill_state, RefillOk, grant_page, grant, GrantOk}
use Rattle.refine.specs.Image.{head_info, image}
use Rattle.region.specs.declared.HeapMemoryRegion.{HeapMemoryRegion}
use Rattle.refine.specs.Fit.{Fits, SoundFit}
use Rattle.refine.proofs.Step.{Lent, Step}
use Rattle.refine.proofs.Listed.{list-free}
use Rattle.refine.proofs.Take.{Takes, take_none, take-image}
use Rattle.refine.proofs.Label.{label-image, hand-image}
use Rattle.refine.proofs.Refill.{Fills, refill-none, refill-image}

-- the request is refused, and nothing changes
pub record Denied (r : HeapMemoryRegion) (h : Heap) (o : ℕ) : Type 0 where
  pub ok : GrantOk o (image r h)
  pub answers : grant_page o (image r h) ≡ None
  pub leaves : (i : PageInfo) → grant o i (image r h) ≡ image r h

-- the block c is granted, out as an ordinary one; with the word of another kind it is labelled so
pub record Granted (M : ℕ → Bool) (r : HeapMemoryRegion) (h : Heap) (o : ℕ) (g : Heap) (c : ℕ) : Type 0 where
  pub ok : GrantOk o (image r h)
  pub answers : grant_page o (image r h) ≡ Some (first o c)
  pub leaves : grant o (allocated_info o) (image r h) ≡ image r g
  pub labels : (k : Kind) → k ≢ free → (next : ℕ) → grant o (head_info k o next) (image r h) ≡ image r (label g o c k)
  pub hand : InHand M g.at o c
  pub fit : SoundFit M r g

abbrev pub Grants : (ℕ → Bool) → HeapMemoryRegion → Heap → ℕ → Grant → Type 0
Grants M r h o refused = Denied r h o
Grants M r h o (granted g c) = Granted M r h o g c

-- the way there, which needs no soundness
record Given (M : ℕ → Bool) (r : HeapMemoryRegion) (h : Heap) (o : ℕ) (g : Heap) (c : ℕ) : Type 0 where
  ok : GrantOk o (image r h)
  answers : grant_page o (image r h) ≡ Some (first o c)
  writes : (i : PageInfo) → grant o i (image r h) ≡ write (first o c) i (image r g)
  fits : Fits M r g

abbrev Way : (ℕ → Bool) → HeapMemoryRegion → Heap → ℕ → Grant → Type 0
Way M r h o refused = Denied r h o
Way M r h o (granted g c) = Given M r h o g c

module _ {M : ℕ → Bool} {r : HeapMemoryRegion} {h : Heap} (f : Fits M r h) (lent : Lent r) (o : ℕ) (valid : o ≤ 5) where
  grant-none : ((j : ℕ) → o ≤ j → j ≤ 5 → h.list j ≡ []) → Denied r h o
  unfolding grant_page grant
  grant-none empty = record {
    ok = record { refill = s.ok; take = rw s.leaves t.ok };
    answers = rw s.leaves t.answers;
    leaves = λ i. rw (s.leaves, t.answers) t.leaves;
  }
    where
      s : Step M r (RefillOk o (image r h)) (refill_state o (image r h)) h
      s = refill-none f lent o valid empty

      t : Takes M r h o None h
      t = take_none f lent o valid (empty o (omega arith) valid)

  module _ {g : Heap} (s : Fills M r o (RefillOk o (image r h)) (refill_state o (image r h)) g) where
    abbrev c : ℕ
    c = cell o s.head

    head-page : first o c ≡ s.head
    head-page = (list-free s.step.fits o s.head valid (rw s.is (mem-head refl))).head

    grant-some : Given M r h o (take g o c) c
    unfolding grant_page grant
    grant-some = record {
      ok = record { refill = s.step.ok; take = rw s.step.leaves t.ok };
      answers = rw (s.step.leaves, head-page) t.answers;
      writes = λ i. rw (s.step.leaves, t.answers, t.leaves, head-page);
      fits = t.fits;
    }
      where
        t : Takes M r g o (Some s.head) (take g o c)
        t = take-image s.step.fits lent o valid s.head s.rest s.is

    granted-head : grant_head g o ≡ granted (take g o c) c
    unfolding grant_head
    granted-head = rw (s.is, grant_head)

  grant-way : (a : Grant) → Allocated h o a → Way M r h o a
  grant-way _ (none empty) = grant-none empty
  grant-way _ (some k p ps l e empty) =
      let s = refill-image f lent o valid k p ps l e empty in
      subst (Way M r h o) (sym (granted-head s) ∙ refill-down o k h p ps e) (grant-some s)

pub grant-image : {M : ℕ → Bool} {r : HeapMemoryRegion} {h : Heap} → SoundFit M r h → Lent r → (o : ℕ) → o ≤ 5 → Grants M r h o (allocate h o)
grant-image {M} {r} {h} f lent o valid = go (allocate h o) (grant-way f.fits lent o valid (allocate h o) (allocated h o))
    (allocate-answers f.sound f.fits.within o valid)
  where
    go : (a : Grant) → Way M r h o a → Answers M (end_of r) h o used a → Grants M r h o a
    go refused w _ = w
    go (granted g c) w was = record {
      ok = w.ok;
      answers = w.answers;
      leaves = w.writes (allocated_info o) ∙ hand-image w.fits hand;
      labels = λ k busy next. w.writes (head_info k o next) ∙ label-image w.fits (hand-out hand) k busy next;
      hand = hand;
      fit = record { fits = w.fits; sound = was.sound };
    }
      where
        hand : InHand M g.at o c
        hand = record { managed = λ q e. (was.was q e).0; is = was.on }
