-- Sets of pages in parts. The pages of two parts add up, and so do their blocks of each order, counted at their heads; the pages of one block
-- are as many as its size, and it counts once, at its order. So a run that is added brings its pages and one block, and one that is taken out
-- takes them with it. These are results.
use Rattle.common.specs.Kit.{ℕ, zero, suc, ◌+◌, ◌*◌, ◌^◌, ◌≤◌, ◌<◌, ◌≡◌, refl, sym, ◌∙◌, ◌≢◌, by_cases, Bool, true, false, not, ◌&&◌, ◌||◌, T, eqb, eqb→eq, add-one, ℕ_discrete, arith, eq-eqb, ne_eqb, eqb-true}
use mathlib.Core.Bool.{and-or_distrib_right}
use lib.Dec.{T_not}
use Rattle.common.specs.Numbers.{one, count}
use Rattle.common.proofs.Tests.{by-test, by_two, T_true, T_and}
use Rattle.common.proofs.Lists.{update_same, update_other}
use Rattle.common.proofs.Counts.{count_same, no-count, count-one, count-parts}
use Rattle.buddy.specs.Runs.{cell, first}
use Rattle.buddy.specs.Heap.{used, Tag, tag, Tiled, heads, Heap}
use Rattle.buddy.specs.Steps.{with_run, add}
use Rattle.buddy.proofs.RunLaws.{cell-zero, cell-low, cell-high, cell_halves, cell-first, first-suc, head_first, head-is, run_ends}
use Rattle.buddy.proofs.Tags.{order-of}
use Rattle.buddy.proofs.Paint.{paint-in, paint-out, Cut}
use Rattle.buddy.proofs.Blocks.{heads-yes, heads-no}
use Rattle.buddy.proofs.Add.{New}
use Rattle.refine.proofs.Halves.{high-page}

-- the pages of S are those of A and of B, which have none in common
pub record Parts (A B S : ℕ → Bool) : Type 0 where
  pub apart : (p : ℕ) → T (A p) → T (B p) → ⊥
  pub whole : (p : ℕ) → S p ≡ (A p || B p)

one-or : (a b : Bool) → (T a → T b → ⊥) → one (a || b) ≡ one a + one b
one-or true true apart = absurd (apart tt tt)
one-or true false apart = refl
one-or false b apart = omega arith

module _ {A B S : ℕ → Bool} (parts : Parts A B S) where
  pub union-pages : (n : ℕ) → count S n ≡ count A n + count B n
  union-pages n = count-parts S A B n (λ p. rw (parts.whole p) (one-or (A p) (B p) (parts.apart p)))

module _ {A B S : ℕ → Bool} (parts : Parts A B S) (at : ℕ → Tag) (j : ℕ) where
  head-parts : Parts (heads A at j) (heads B at j) (heads S at j)
  head-parts = record {
    apart = λ p a b. parts.apart p (T_and (A p) _ a).0 (T_and (B p) _ b).0;
    whole = λ p. rw (parts.whole p) (and-or_distrib_right (A p) (B p) _);
  }

  pub union-counts : (n : ℕ) → count (heads S at j) n ≡ count (heads A at j) n + count (heads B at j) n
  union-counts = union-pages head-parts

-- page p lies in run c of order o
abbrev pub run : ℕ → ℕ → ℕ → Bool
run o c p = eqb (cell o p) c

halves : (o c : ℕ) → Parts (run o (c * 2)) (run o (c * 2 + 1)) (run (suc o) c)
halves o c = record {
  apart = λ p a b. omega (arith, eqb→eq (cell o p) (c * 2) a, eqb→eq (cell o p) (c * 2 + 1) b);
  whole = λ p. by_two (cell o p) (c * 2) (c * 2 + 1)
      (λ e. rw (eq-eqb _ _ e, eq-eqb _ _ (cell-low o c p e)))
      (λ d e. rw (ne_eqb _ _ d, eq-eqb _ _ e, eq-eqb _ _ (cell-high o c p e)))
      (λ d e. rw (ne_eqb _ _ d, ne_eqb _ _ e) (ne_eqb _ _ (λ x. e (cell_halves o c p x d))));
}

pub block-pages : (o c n : ℕ) → first o c + 2 ^ o ≤ n → count (run o c) n ≡ 2 ^ o
block-pages zero c n l = count-one (run 0 c) c n (omega (arith, rw (cell-zero (first 0 c)) at (cell-first 0 c)))
    (eq-eqb _ _ (cell-zero c)) (λ p ne. ne_eqb _ _ (λ e. ne (sym (cell-zero p) ∙ e)))
block-pages (suc o) c n l =
    let size : 2 ^ suc o ≡ 2 ^ o * 2 = omega (arith, add-one o) in
    omega (
      arith,
      union-pages (halves o c) n,
      block-pages o (c * 2) n (omega (arith, first-suc o c)),
      block-pages o (c * 2 + 1) n (omega (arith, high-page o c)),
    )

-- a block is counted at its order, and at no other
pub block-counts : (at : ℕ → Tag) (o c n : ℕ) → first o c < n → ((q : ℕ) → cell o q ≡ c → (at q).order ≡ o) → (j : ℕ)
    → count (heads (run o c) at j) n ≡ one (eqb j o)
block-counts at o c n l is j = by_cases (ℕ_discrete j o)
    (λ e. rw (eq-eqb j o e, e) (count-one _ (first o c) n l
    (heads-yes (run o c) at o _ (rw (eq-eqb _ _ (cell-first o c)) tt) (is _ (cell-first o c)) (head_first o c))
    (λ p ne. heads-no (run o c) at o p (λ m _ h. ne (head-is o c p h (eqb→eq _ _ m))))))
    (λ e. rw (ne_eqb j o e) (no-count _ n (λ p. heads-no (run o c) at j p (λ m x _. e (sym x ∙ is p (eqb→eq _ _ m))))))

-- run c of order o is added to the heap h over M: its pages and one block more, in the heap's own numbers and counted at the heads
pub record Added (M : ℕ → Bool) (n : ℕ) (h : Heap) (o c : ℕ) : Type 0 where
  pub parts : Parts (run o c) M (with_run M o c)
  pub pages : count (with_run M o c) n ≡ count M n + 2 ^ o
  pub blocks : (j : ℕ) → (add h o c).blocks j ≡ h.blocks j + one (eqb j o)
  pub counted : (j : ℕ) → count (heads (with_run M o c) (add h o c).at j) n ≡ count (heads M h.at j) n + one (eqb j o)
  pub others : (q : ℕ) → cell o q ≢ c → (add h o c).at q ≡ h.at q

pub run-added : {M : ℕ → Bool} {n o c : ℕ} → New M n o c → (h : Heap) → Added M n h o c
unfolding with_run add
run-added {M} {n} {o} {c} new h = record {
  parts = two;
  pages = omega (arith, union-pages two n, block-pages o c n (run_ends o c n new.room));
  blocks = λ j. by_cases (ℕ_discrete j o)
      (λ e. rw (update_same, eq-eqb j o e) (rw e))
      (λ e. rw (update_other, ne_eqb j o e) (omega arith));
  counted = λ j. omega (arith, union-counts two at' j n, block-counts at' o c n (new.room _ (cell-first o c)) mine j, before j);
  others = off;
}
  where
    two : Parts (run o c) M (with_run M o c)
    two = record { apart = λ p t m. new.fresh p (eqb→eq _ _ t) m; whole = λ p. refl }

    at' : ℕ → Tag
    at' = (add h o c).at

    mine : (q : ℕ) → cell o q ≡ c → (at' q).order ≡ o
    mine q e = order-of (paint-in h.at o c (tag o used) q e)

    off : (q : ℕ) → cell o q ≢ c → at' q ≡ h.at q
    off = paint-out h.at o c (tag o used)

    -- M's pages are off the run
    before : (j : ℕ) → count (heads M at' j) n ≡ count (heads M h.at j) n
    before j = count_same _ _ n (λ p _. by-test (M p) (λ m. rw (off p (λ e. new.fresh p e (rw m tt)))) (λ m. rw m))

-- the pages of M but for those of run c of order o
abbrev pub without_run : (ℕ → Bool) → ℕ → ℕ → ℕ → Bool
without_run M o c p = not (run o c p) && M p

-- the block on run c of order o is taken out: its pages and one block less; what is left is tiled, and every other block is in it
pub record Taken (M : ℕ → Bool) (at : ℕ → Tag) (n o c : ℕ) : Type 0 where
  pub parts : Parts (run o c) (without_run M o c) M
  pub pages : count (without_run M o c) n + 2 ^ o ≡ count M n
  pub counted : (j : ℕ) → count (heads (without_run M o c) at j) n + one (eqb j o) ≡ count (heads M at j) n
  pub tiled : Tiled M at → Tiled (without_run M o c) at
  pub others : (j d : ℕ) → (j ≡ o → d ≢ c) → Cut M at j j d → Cut (without_run M o c) at j j d

pub run-taken : {M : ℕ → Bool} {at : ℕ → Tag} {n o c : ℕ} → ((p : ℕ) → T (M p) → p < n) → Cut M at o o c → Taken M at n o c
run-taken {M} {at} {n} {o} {c} bound block = record {
  parts = two;
  pages = omega (arith, union-pages two n, block-pages o c n (run_ends o c n room));
  counted = λ j. omega (arith, union-counts two at j n, block-counts at o c n (room _ (cell-first o c)) block.order j);
  tiled = λ t p m.
      let b = t p (T_and (not (run o c p)) (M p) m).1 in
      let whole : Cut M at (at p).order (at p).order (cell (at p).order p) = record { managed = b.inside; order = λ q e. order-of (b.same q e) } in
      record { fits = b.fits; inside = (rest _ _ (λ e x. away p m (rw e at x)) whole).managed; same = b.same };
  others = rest;
}
  where
    room : (q : ℕ) → cell o q ≡ c → q < n
    room q e = bound q (block.managed q e)

    away : (p : ℕ) → T (without_run M o c p) → cell o p ≢ c
    away p m e = T_not (run o c p) (T_and (not (run o c p)) (M p) m).0 (rw (eq-eqb (cell o p) c e) tt)

    two : Parts (run o c) (without_run M o c) M
    two = record {
      apart = λ p t m. away p m (eqb→eq _ _ t);
      whole = λ p. by-test (run o c p) (λ e. rw e (T_true (M p) (block.managed p (eqb-true _ _ e)))) (λ e. rw e);
    }

    -- a page of another block is off the run, by its order or by its number
    rest : (j d : ℕ) → (j ≡ o → d ≢ c) → Cut M at j j d → Cut (without_run M o c) at j j d
    rest j d ne b = record {
      managed = λ q e.
          let off : cell o q ≢ c = λ x. let is : j ≡ o = sym (b.order q e) ∙ block.order q x in ne is (sym e ∙ rw is x) in
          rw (ne_eqb (cell o q) c off) (b.managed q e);
      order = b.order;
    }
