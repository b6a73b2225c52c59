-- Painting a run with one tag: every step paints one run that is made of blocks, so one law of tilings serves them all.
use Rattle.common.specs.Kit.{ℕ, suc, ◌/◌, ◌≤◌, ◌≡◌, refl, sym, ◌∙◌, ◌≢◌, by_cases, Bool, T, ℕ_discrete, arith, eq-eqb, ne_eqb}
use Rattle.buddy.specs.Runs.{cell, first, buddy}
use Rattle.buddy.specs.Heap.{Kind, free, Tag, tag, Fits, Block, Tiled, FreeHead}
use Rattle.buddy.specs.Steps.{paint}
use Rattle.buddy.proofs.RunLaws.{cell-coarse, cell-first, buddy-is}
use Rattle.buddy.proofs.Tags.{order-of, kind-of}

module _ (at : ℕ → Tag) (o c : ℕ) (v : Tag) where
  pub paint-in : (q : ℕ) → cell o q ≡ c → paint at o c v q ≡ v
  unfolding paint
  paint-in q e = rw (eq-eqb (cell o q) c e)

  pub paint-out : (q : ℕ) → cell o q ≢ c → paint at o c v q ≡ at q
  unfolding paint
  paint-out q e = rw (ne_eqb (cell o q) c e)

  -- where the run had the order of the new tag, no order changes
  pub paint-order : ((q : ℕ) → cell o q ≡ c → (at q).order ≡ v.order) → (q : ℕ) → (at q).order ≡ (paint at o c v q).order
  paint-order had q = by_cases (ℕ_discrete (cell o q) c)
      (λ e. had q e ∙ sym (order-of (paint-in q e)))
      (λ e. sym (order-of (paint-out q e)))

-- What a run of order o may be before a step. Its number is c.
module _ (M : ℕ → Bool) (at : ℕ → Tag) where
  -- managed, and made of blocks of order i
  pub record Cut (i o c : ℕ) : Type 0 where
    pub managed : (q : ℕ) → cell o q ≡ c → T (M q)
    pub order : (q : ℕ) → cell o q ≡ c → (at q).order ≡ i

  -- and these are out
  pub record BlocksOut (i o c : ℕ) : Type 0 where
    pub cut : Cut i o c
    pub busy : (q : ℕ) → cell o q ≡ c → (at q).kind ≢ free

  -- one block out
  abbrev pub BlockOut : ℕ → ℕ → Type 0
  BlockOut o c = BlocksOut o o c

  -- one free block
  pub record FreeBlock (o c : ℕ) : Type 0 where
    pub managed : (q : ℕ) → cell o q ≡ c → T (M q)
    pub is : (q : ℕ) → cell o q ≡ c → at q ≡ tag o free

module _ {M : ℕ → Bool} where
  pub free-cut : {at : ℕ → Tag} {o c : ℕ} → FreeBlock M at o c → Cut M at o o c
  free-cut f = record { managed = f.managed; order = λ q e. order-of (f.is q e) }

  -- a free head is the head of a free block
  pub free-block : {at : ℕ → Tag} (o c : ℕ) → Tiled M at → FreeHead M at o (first o c) → FreeBlock M at o c
  free-block {at} o c tiled f = record {
    managed = λ q e. b.inside q (near q e);
    is = λ q e. b.same q (near q e) ∙ f.is;
  }
    where
      b : Block M at (first o c)
      b = tiled _ f.managed

      near : (q : ℕ) → cell o q ≡ c → cell (at (first o c)).order q ≡ cell (at (first o c)).order (first o c)
      near q e = rw f.is (e ∙ sym (cell-first o c))

  -- a run painted with the tag of a block out of order i
  pub painted-out : (at : ℕ → Tag) (i o c : ℕ) (k : Kind) → ((q : ℕ) → cell o q ≡ c → T (M q)) → k ≢ free
      → BlocksOut M (paint at o c (tag i k)) i o c
  painted-out at i o c k managed busy = record {
    cut = record { managed = managed; order = λ q e. order-of (paint-in at o c (tag i k) q e) };
    busy = λ q e x. busy (sym (kind-of (paint-in at o c (tag i k) q e)) ∙ x);
  }

  -- blocks out, after another run is painted
  pub still-out : {at : ℕ → Tag} {i o c : ℕ} (j d : ℕ) (v : Tag) → ((q : ℕ) → cell o q ≡ c → cell j q ≢ d) → BlocksOut M at i o c
      → BlocksOut M (paint at j d v) i o c
  still-out {at} j d v other out = record {
    cut = record { managed = out.cut.managed; order = λ q e. order-of (paint-out at j d v q (other q e)) ∙ out.cut.order q e };
    busy = λ q e x. out.busy q e (sym (kind-of (paint-out at j d v q (other q e))) ∙ x);
  }

  -- one of the blocks out that a run is made of
  pub part_out : {at : ℕ → Tag} {i o c : ℕ} (d : ℕ) → ((q : ℕ) → cell i q ≡ d → cell o q ≡ c) → BlocksOut M at i o c → BlockOut M at i d
  part_out d part out = record {
    cut = record { managed = λ q e. out.cut.managed q (part q e); order = λ q e. out.cut.order q (part q e) };
    busy = λ q e. out.busy q (part q e);
  }

  -- a block out and its buddy, also out
  pub both_out : {at : ℕ → Tag} {o c : ℕ} → BlockOut M at o c → BlockOut M at o (buddy c) → BlocksOut M at o (suc o) (c / 2)
  both_out {at} {o} {c} a b = record {
    cut = record {
      managed = λ q e. by_cases (ℕ_discrete (cell o q) c) (a.cut.managed q) (λ x. b.cut.managed q (buddy-is o c q e x));
      order = λ q e. by_cases (ℕ_discrete (cell o q) c) (a.cut.order q) (λ x. b.cut.order q (buddy-is o c q e x));
    };
    busy = λ q e. by_cases (ℕ_discrete (cell o q) c) (a.busy q) (λ x. b.busy q (buddy-is o c q e x));
  }

-- A run is painted with the tag of blocks of order i. M', managed from then on, has the run and is M off it; no block of M reaches into
-- the run from outside.
module _ {M M' : ℕ → Bool} {at : ℕ → Tag} (i o c : ℕ) (k : Kind) (tiled : Tiled M at) (fits : Fits k i) (small : i ≤ o)
    (on : (q : ℕ) → cell o q ≡ c → T (M' q)) (off : (q : ℕ) → cell o q ≢ c → M' q ≡ M q)
    (clear : (p q : ℕ) → T (M p) → cell o p ≢ c → cell (at p).order q ≡ cell (at p).order p → cell o q ≢ c) where
  abbrev at' : ℕ → Tag
  at' = paint at o c (tag i k)

  block_in : (p : ℕ) → cell o p ≡ c → Block M' at' p
  block_in p e = record {
    fits = rw new fits;
    inside = λ q x. on q (run q x);
    same = λ q x. paint-in at o c (tag i k) q (run q x) ∙ sym new;
  }
    where
      new : at' p ≡ tag i k
      new = paint-in at o c (tag i k) p e

      run : (q : ℕ) → cell (at' p).order q ≡ cell (at' p).order p → cell o q ≡ c
      run q x = cell-coarse i o q p small (rw new at x) ∙ e

  block-off : (p : ℕ) → T (M p) → cell o p ≢ c → Block M' at' p
  block-off p m e = record {
    fits = rw old b.fits;
    inside = λ q x. rw (off q (away q (near q x))) (b.inside q (near q x));
    same = λ q x. paint-out at o c (tag i k) q (away q (near q x)) ∙ b.same q (near q x) ∙ sym old;
  }
    where
      b : Block M at p
      b = tiled p m

      old : at' p ≡ at p
      old = paint-out at o c (tag i k) p e

      near : (q : ℕ) → cell (at' p).order q ≡ cell (at' p).order p → cell (at p).order q ≡ cell (at p).order p
      near q x = rw old at x

      away : (q : ℕ) → cell (at p).order q ≡ cell (at p).order p → cell o q ≢ c
      away q x = clear p q m e x

  pub paint-tiled : Tiled M' at'
  paint-tiled p m = by_cases (ℕ_discrete (cell o p) c) (block_in p) (λ e. block-off p (rw (off p e) at m) e)

-- a run made of blocks of order i is painted with the tag of blocks of order j
pub recut-tiled : {M : ℕ → Bool} {at : ℕ → Tag} (i j o c : ℕ) (k : Kind) → Tiled M at → Cut M at i o c → i ≤ o → Fits k j → j ≤ o
    → Tiled M (paint at o c (tag j k))
recut-tiled {M} {at} i j o c k tiled cut l fits small = paint-tiled j o c k tiled fits small cut.managed (λ _ _. refl) (λ p q m ne x e.
    ne (sym (cell-coarse (at p).order o q p (omega (arith, order-of ((tiled p m).same q x), cut.order q e)) x) ∙ e))
