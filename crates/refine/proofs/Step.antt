-- What a step on the image of a heap does, as a result with names; the bounds and the fit that every step needs.
use Rattle.common.specs.Kit.{ℕ, ◌+◌, ◌^◌, ◌≤◌, ◌≡◌, ◌∙◌, by_cases, Bool, T, length, ℕ_discrete, arith}
use Rattle.common.proofs.Bounds.{once-length, count-le}
use Rattle.buddy.specs.Runs.{cell, first}
use Rattle.buddy.specs.Heap.{Kind, Tag, tag, Heap, Core, heads}
use Rattle.buddy.specs.Steps.{paint}
use Rattle.buddy.proofs.RunLaws.{cell-first, run_ends}
use Rattle.buddy.proofs.Paint.{Cut, paint-in, paint-out}
use Rattle.buddy.proofs.Clear.{order_small}
use Rattle.buddy.proofs.Clean.{High, high-clean}
use Rattle.region.specs.Layout.{end_of, Limits}
use Rattle.region.specs.State.{State}
use Rattle.refine.specs.Image.{image}
use Rattle.region.specs.declared.HeapMemoryRegion.{HeapMemoryRegion}
use Rattle.refine.specs.Fit.{Holds, Fits, SoundFit}
use Rattle.region.proofs.Limits.{pages-small}

-- a region that is lent as many words as it has pages
abbrev pub Lent : HeapMemoryRegion → Type 0
Lent r = Limits r.start_virt.0 r.page_count r.allocated r.page_count

-- a step is safe and leads to the image of g, which fits
pub record Step (M : ℕ → Bool) (r : HeapMemoryRegion) (Ok : Type 0) (after : State) (g : Heap) : Type 0 where
  pub ok : Ok
  pub leaves : after ≡ image r g
  pub fits : Fits M r g

-- a rule is safe and leads to the image of g, which is sound too
pub record Rule (M : ℕ → Bool) (r : HeapMemoryRegion) (Ok : Type 0) (after : State) (g : Heap) : Type 0 where
  pub ok : Ok
  pub leaves : after ≡ image r g
  pub fit : SoundFit M r g

-- a step that answers x
pub record Call {A : Type 0} (M : ℕ → Bool) (r : HeapMemoryRegion) (Ok : Type 0) (answer : A) (after : State) (x : A) (g : Heap) : Type 0 where
  pub ok : Ok
  pub answers : answer ≡ x
  pub leaves : after ≡ image r g
  pub fits : Fits M r g

module _ {M : ℕ → Bool} {r : HeapMemoryRegion} {h : Heap} (f : Fits M r h) where
  pub run-below : {at : ℕ → Tag} {i o c : ℕ} → Cut M at i o c → first o c + 2 ^ o ≤ end_of r
  run-below {o = o} {c = c} cut = run_ends o c (end_of r) (λ q e. f.within q (cut.managed q e))

  pub cut_small : {i o c : ℕ} → Cut M h.at i o c → i ≤ 5
  cut_small {i} {o} {c} cut = rw (cut.order (first o c) (cell-first o c)) at
      (order_small M h.at f.core.tiled (first o c) (cut.managed (first o c) (cell-first o c)))

  module _ (lent : Lent r) (o : ℕ) (valid : o ≤ 5) where
    pub frees-small : length (h.list o) ≤ 2 ^ 20
    frees-small =
        let l = f.core.listed o valid in
        let n = once-length (end_of r) (h.list o) l.once (λ p m. f.within p (l.sound p m).managed) in
        omega (arith, n, pages-small r.page_count lent.most)

    pub blocks-small : h.blocks o ≤ 2 ^ 20
    blocks-small =
        let n = count-le (heads M h.at o) (end_of r) in
        rw (f.core.counted o valid) (omega (arith, n, pages-small r.page_count lent.most))

  -- a run is painted with a kind that words hold
  pub paint-fits : {g : Heap} (i o c : ℕ) (k : Kind) → ((q : ℕ) → cell o q ≡ c → T (M q)) → Holds k
      → Core M (end_of r) g → High h g → ((q : ℕ) → g.at q ≡ paint h.at o c (tag i k) q) → Fits M r g
  paint-fits i o c k on holds core high is = record {
    core = core;
    within = f.within;
    holds = λ p m. rw (is p) (by_cases (ℕ_discrete (cell o p) c)
        (λ e. rw (paint-in h.at o c (tag i k) p e) holds)
        (λ e. rw (paint-out h.at o c (tag i k) p e) (f.holds p m)));
    clean = high-clean f.clean high (λ p t. is p ∙ paint-out h.at o c (tag i k) p (λ e. t (on p e)));
  }
