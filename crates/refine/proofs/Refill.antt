-- Rule 4's refill on record and words is the heap's: the same list is the lowest that is not empty, and its head is split down alike.
use Rattle.common.specs.Kit.{ℕ, zero, suc, ◌+◌, ◌-◌, ◌≤◌, ◌<◌, ◌≡◌, refl, ◌∙◌, Bool, List, [], ◌∷◌, mem-head, zero-add, suc-add, arith, eq-eqb, ne_eqb, Some, None}
use Rattle.words.specs.Word.{no_page}
use Rattle.buddy.specs.Runs.{cell}
use Rattle.buddy.specs.Heap.{Heap}
use Rattle.buddy.specs.Steps.{take, split}
use Rattle.buddy.specs.Rules.{split_head, refill}
use Rattle.buddy.proofs.Paint.{free-block}
use Rattle.buddy.proofs.Steps.{take_out}
use Rattle.region.specs.State.{State, head_in, split as split_state, SplitOk}
use Rattle.region.specs.Steps.{lowest_from, split_down, DownOk, refill as refill_state, RefillOk}
use Rattle.refine.specs.Image.{region_of, image}
use Rattle.region.specs.declared.HeapMemoryRegion.{HeapMemoryRegion}
use Rattle.refine.specs.Fit.{Fits}
use Rattle.refine.proofs.Record.{head-image}
use Rattle.refine.proofs.Step.{Lent, Step}
use Rattle.refine.proofs.Listed.{list-free, list-some}
use Rattle.refine.proofs.Take.{Takes, take-image}
use Rattle.refine.proofs.Split.{split-list, split-image}

-- a step after which list o has a head
pub record Fills (M : ℕ → Bool) (r : HeapMemoryRegion) (o : ℕ) (Ok : Type 0) (after : State) (g : Heap) : Type 0 where
  pub step : Step M r Ok after g
  pub head : ℕ
  pub rest : List ℕ
  pub is : g.list o ≡ head ∷ rest

-- list o is filled from list k + o
abbrev Down : (ℕ → Bool) → HeapMemoryRegion → Heap → ℕ → ℕ → Type 0
Down M r h o k = Fills M r o (DownOk o k (image r h)) (split_down o k (image r h)) (refill h o k)

-- the head p of list j + 1 is taken, and then split
abbrev taken : Heap → ℕ → ℕ → Heap
taken h j p = take h (suc j) (cell (suc j) p)

abbrev turned : Heap → ℕ → ℕ → Heap
turned h j p = split (taken h j p) j (cell (suc j) p)

module _ {M : ℕ → Bool} {r : HeapMemoryRegion} {h : Heap} (f : Fits M r h) (lent : Lent r) where
  empty-head : (j : ℕ) → j < 6 → h.list j ≡ [] → head_in (image r h) j ≡ no_page
  empty-head j valid e = head-image r h j valid ∙ rw e

  -- the lowest list that is not empty: none of `left` orders from j on, or list k + j
  pub lowest-none : (left j : ℕ) → j + left ≤ 6 → ((i : ℕ) → j ≤ i → i < j + left → h.list i ≡ [])
      → lowest_from left j (region_of r h).next_page ≡ None
  unfolding lowest_from
  lowest-none zero j l empty = refl
  lowest-none (suc left) j l empty = rw (eq-eqb _ _ (empty-head j (omega arith) (empty j (omega arith) (omega arith))))
      (lowest-none left (suc j) (omega arith) (λ i a b. empty i (omega arith) (omega arith)))

  pub lowest-at : (left k j p : ℕ) (ps : List ℕ) → j + left ≤ 6 → k < left → ((i : ℕ) → j ≤ i → i < k + j → h.list i ≡ [])
      → h.list (k + j) ≡ p ∷ ps → lowest_from left j (region_of r h).next_page ≡ Some (k + j)
  unfolding lowest_from
  lowest-at zero k j p ps l low empty is = absurd (omega arith)
  lowest-at (suc left) zero j p ps l low empty is =
      let here : h.list j ≡ p ∷ ps = rw (zero-add j) at is in
      let e : head_in (image r h) j ≡ p = head-image r h j (omega arith) ∙ rw here in
      rw (ne_eqb (head_in (image r h) j) no_page (rw e (list-some f lent j p (omega arith) (rw here (mem-head refl)))), zero-add j)
  lowest-at (suc left) (suc k) j p ps l low empty is =
      let up : k + suc j ≡ suc k + j = omega arith in
      rw (eq-eqb _ _ (empty-head j (omega arith) (empty j (omega arith) (omega arith))), ← up)
      (lowest-at left k (suc j) p ps (omega arith) (omega arith) (λ i a b. empty i (omega arith) (omega arith)) (rw up is))

  -- one turn: the head p of list k + o + 1 is taken and split
  module _ (o k p : ℕ) (ps : List ℕ) (valid : suc (k + o) ≤ 5) (e : h.list (suc (k + o)) ≡ p ∷ ps) where
    turn-take : Takes M r h (suc (k + o)) (Some p) (taken h (k + o) p)
    turn-take = take-image f lent (suc (k + o)) valid p ps e

    turn-split : Step M r (SplitOk p (suc (k + o)) (image r (taken h (k + o) p))) (split_state p (k + o) (image r (taken h (k + o) p)))
        (turned h (k + o) p)
    turn-split =
        let on = list-free f (suc (k + o)) p valid (rw e (mem-head refl)) in
        rw on.head at (split-image turn-take.fits lent
        (take_out h (free-block (suc (k + o)) (cell (suc (k + o)) p) f.core.tiled (rw on.head on))))

    down_turn : Down M r (turned h (k + o) p) o k → Down M r h o (suc k)
    unfolding DownOk split_down refill split_head
    down_turn d = record {
      step = record {
        ok = (
          turn-take.ok,
          λ q x.
              let y : q ≡ p = cc turn-take.answers in
              rw (y, turn-take.leaves) (turn-split.ok, rw turn-split.leaves d.step.ok),
        );
        leaves = rw (turn-take.answers, turn-take.leaves, turn-split.leaves, to) d.step.leaves;
        fits = rw to d.step.fits;
      };
      head = d.head;
      rest = d.rest;
      is = rw to d.is;
    }
      where
        to : refill h o (suc k) ≡ refill (turned h (k + o) p) o k
        to = rw (e, split_head)

down-image : {M : ℕ → Bool} {r : HeapMemoryRegion} {h : Heap} (o k : ℕ) → Fits M r h → Lent r → k + o ≤ 5 → (p : ℕ) (ps : List ℕ)
    → h.list (k + o) ≡ p ∷ ps → Down M r h o k
unfolding DownOk split_down refill
down-image o zero f lent valid p ps is = record {
  step = record { ok = tt; leaves = refl; fits = f };
  head = p;
  rest = ps;
  is = rw (zero-add o) at is;
}
down-image {h = h} o (suc k) f lent valid p ps is =
    let e : h.list (suc (k + o)) ≡ p ∷ ps = rw (suc-add k o) at is in
    down_turn f lent o k p ps (omega arith) e (down-image {h = turned h (k + o) p} o k (turn-split f lent o k p ps (omega arith) e).fits lent (omega arith) _ _
    (split-list (taken h (k + o) p) (k + o) (cell (suc (k + o)) p)))

module _ {M : ℕ → Bool} {r : HeapMemoryRegion} {h : Heap} (f : Fits M r h) (lent : Lent r) (o : ℕ) (valid : o ≤ 5) where
  pub refill-none : ((j : ℕ) → o ≤ j → j ≤ 5 → h.list j ≡ []) → Step M r (RefillOk o (image r h)) (refill_state o (image r h)) h
  unfolding refill_state
  refill-none empty = record {
    ok = record { order = omega arith; down = λ j x. let z : ◌≡◌ {A = ℕ} 0 1 = cc (lowest) in absurd (omega arith) };
    leaves = rw lowest;
    fits = f;
  }
    where
      lowest : lowest_from (6 - o) o (region_of r h).next_page ≡ None
      lowest = lowest-none f lent (6 - o) o (omega arith) (λ i a b. empty i a (omega arith))

  pub refill-image : (k p : ℕ) (ps : List ℕ) → k + o ≤ 5 → h.list (k + o) ≡ p ∷ ps → ((i : ℕ) → o ≤ i → i < k + o → h.list i ≡ [])
      → Fills M r o (RefillOk o (image r h)) (refill_state o (image r h)) (refill h o k)
  unfolding refill_state
  refill-image k p ps l e empty = record {
    step = record {
      ok = record {
        order = omega arith;
        down = λ j x.
            let y : j ≡ k + o = cc (lowest) in
            rw y (record { small = omega arith; from = omega arith; down = rw back d.step.ok });
      };
      leaves = rw (lowest, back) d.step.leaves;
      fits = d.step.fits;
    };
    head = d.head;
    rest = d.rest;
    is = d.is;
  }
    where
      d : Down M r h o k
      d = down-image o k f lent l p ps e

      back : k + o - o ≡ k
      back = omega arith

      lowest : lowest_from (6 - o) o (region_of r h).next_page ≡ Some (k + o)
      lowest = lowest-at f lent (6 - o) k o p ps (omega arith) (omega arith) empty e
