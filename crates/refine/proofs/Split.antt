-- To split a block out is the heap's split: its two halves become free ahead of their list, the lower one first.
use Rattle.common.specs.Kit.{ℕ, suc, ◌+◌, ◌-◌, ◌*◌, ◌≤◌, ◌<◌, ◌≡◌, refl, sym, ap, ◌∙◌, by_cases, Bool, List, ◌∷◌, length, ℕ_discrete, arith}
use Rattle.common.specs.Numbers.{update}
use Rattle.common.proofs.Lists.{update_same, update_other}
use Rattle.buddy.specs.Runs.{cell, first}
use Rattle.buddy.specs.Heap.{free, used, tag, Heap}
use Rattle.buddy.specs.Steps.{paint, push, halve, split}
use Rattle.buddy.proofs.RunLaws.{cell-first, first-inj, first-suc, cell-low, cell-high, cell_halves}
use Rattle.buddy.proofs.Tags.{order-of, kind-of}
use Rattle.buddy.proofs.Paint.{BlockOut, paint-in, paint-out, part_out, still-out}
use Rattle.buddy.proofs.Blocks.{count-whole}
use Rattle.buddy.proofs.Steps.{push-core, halve-core, halve-out}
use Rattle.buddy.proofs.Clean.{then-high, push-high, halve-high}
use Rattle.buddy.proofs.Refill.{heap-path, push-head, push-other, lower, upper-on, lower-off}
use Rattle.pages.specs.Fill.{init}
use Rattle.region.specs.Layout.{end_of}
use Rattle.region.specs.State.{head_in, frees_in, split as split_state, SplitOk}
use Rattle.refine.specs.Image.{next_after, words_of, image}
use Rattle.region.specs.declared.HeapMemoryRegion.{HeapMemoryRegion}
use Rattle.refine.specs.Fit.{Fits}
use Rattle.refine.proofs.Links.{after_same, after-other}
use Rattle.refine.proofs.Shown.{words_long}
use Rattle.refine.proofs.Record.{head-image, frees-image, blocks-image, region-list, region-two}
use Rattle.refine.proofs.Words.{entry-same, words-run}
use Rattle.refine.proofs.Halves.{high-page}
use Rattle.refine.proofs.Step.{Lent, Step, run-below, cut_small, frees-small, blocks-small, paint-fits}

-- the first pages of the two halves of run c of order o + 1
abbrev lo : ℕ → ℕ → ℕ
lo o c = first o (c * 2)

abbrev hi : ℕ → ℕ → ℕ
hi o c = first o (c * 2 + 1)

-- what a split leaves, said at once: the run c is free in halves, and these stand ahead of list o
module _ (h : Heap) (o c : ℕ) where
  abbrev lists : ℕ → List ℕ
  lists = update h.list o (lo o c ∷ hi o c ∷ h.list o)

  list-here : lists o ≡ lo o c ∷ hi o c ∷ h.list o
  list-here = update_same h.list o _ o refl

  abbrev cleft : Heap
  cleft = record {
    at = paint h.at (suc o) c (tag o free);
    list = lists;
    blocks = update (update h.blocks (suc o) (h.blocks (suc o) - 1)) o (h.blocks o + 2);
  }

  pub split-list : (split h o c).list o ≡ first o (c * 2) ∷ first o (c * 2 + 1) ∷ h.list o
  unfolding split halve
  split-list = push-head (lower h o c) o (c * 2) ∙ ap (λ l. lo o c ∷ l) (push-head (halve h o c) o (c * 2 + 1))

  split-is : split h o c ≡ cleft
  unfolding split push halve
  split-is = heap-path _ cleft
      (λ q. by_cases (ℕ_discrete (cell (suc o) q) c)
      (λ e. by_cases (ℕ_discrete (cell o q) (c * 2))
      (paint-in _ o (c * 2) (tag o free) q)
      (λ x. paint-out _ o (c * 2) (tag o free) q x ∙ upper-on h o c q (cell_halves o c q e x))
      ∙ sym (paint-in h.at (suc o) c (tag o free) q e))
      (λ e. paint-out _ o (c * 2) (tag o free) q (λ x. e (cell-low o c q x)) ∙ lower-off h o c q e
      ∙ sym (paint-out h.at (suc o) c (tag o free) q e)))
      (λ j. by_cases (ℕ_discrete j o)
      (λ e. rw e (split-list ∙ sym list-here))
      (λ e. push-other (lower h o c) o (c * 2) j e ∙ push-other (halve h o c) o (c * 2 + 1) j e ∙ sym (update_other h.list o _ j e)))
      (λ _. refl)

module _ {M : ℕ → Bool} {r : HeapMemoryRegion} {h : Heap} (f : Fits M r h) (lent : Lent r) {o c : ℕ} (out : BlockOut M h.at (suc o) c) where
  valid : o < 5
  valid = cut_small f out.cut

  -- the lower half is free and the upper one not yet written
  abbrev mid : Heap
  mid = record { at = paint h.at o (c * 2) (tag o free); list = lists h o c; blocks = h.blocks }

  low-words : init (lo o c) o (hi o c) (words_of r h) ≡ words_of r mid
  unfolding init
  low-words =
      let next : next_after (lo o c) (lists h o c o) ≡ hi o c = rw (list-here h o c) (after_same (lo o c) (lo o c) _ refl) in
      rw next at (words-run r h mid o (c * 2) free (λ q e. f.within q (out.cut.managed q (cell-low o c q e)))
      (paint-in h.at o (c * 2) (tag o free))
      (λ q e. entry-same h mid q (paint-out h.at o (c * 2) (tag o free) q e) (λ j is. by_cases (ℕ_discrete j o)
      (λ d. rw (d, list-here h o c) (after-other q (lo o c) _ (λ x. e (rw (← x) (cell-first o (c * 2))))
      ∙ after-other q (hi o c) _ (λ x. out.busy q (cell-high o c q (rw (← x) (cell-first o (c * 2 + 1)))) (kind-of is))))
      (λ d. rw update_other))))

  high-words : init (hi o c) o (head_in (image r h) o) (words_of r mid) ≡ words_of r (cleft h o c)
  unfolding init
  high-words =
      let next : next_after (hi o c) (lists h o c o) ≡ head_in (image r h) o = rw (list-here h o c)
      (after-other (hi o c) (lo o c) _ (λ x. omega (arith, first-inj o _ _ x)) ∙ after_same (hi o c) (hi o c) (h.list o) refl
      ∙ sym (head-image r h o (omega (arith, valid)))) in
      rw next at (words-run r mid (cleft h o c) o (c * 2 + 1) free (λ q e. f.within q (out.cut.managed q (cell-high o c q e)))
      (λ q e. paint-in h.at (suc o) c (tag o free) q (cell-high o c q e))
      (λ q e. entry-same mid (cleft h o c) q (by_cases (ℕ_discrete (cell o q) (c * 2))
      (λ x. paint-in h.at (suc o) c (tag o free) q (cell-low o c q x) ∙ sym (paint-in h.at o (c * 2) (tag o free) q x))
      (λ x. paint-out h.at (suc o) c (tag o free) q (λ z. e (cell_halves o c q z x)) ∙ sym (paint-out h.at o (c * 2) (tag o free) q x)))
      (λ _ _. refl)))

  pub split-image : Step M r (SplitOk (first (suc o) c) (suc o) (image r h)) (split_state (first (suc o) c) o (image r h)) (split h o c)
  unfolding split_state halve push split
  split-image = record {
    ok = record {
      small = omega (arith, valid);
      above = omega arith;
      low = rw back (record { order = omega (arith, valid); ends = rw (words_long r h) (omega (arith, run-below f out.cut)) });
      high = rw back (record { order = omega (arith, valid); ends = rw (words_long r h) (omega (arith, run-below f out.cut)) });
      some = rw (blocks-image r h (suc o) (omega (arith, valid)), f.core.counted (suc o) valid) (omega (
        arith,
        count-whole (end_of r) o c f.within out.cut (halve-out h out).cut (λ q e. sym (order-of (paint-out h.at (suc o) c (tag o used) q e))),
      ));
      count = rw (back, blocks-image r h o (omega (arith, valid))) (omega (arith, blocks-small f lent o (omega (arith, valid))));
      free = rw (back, frees-image r h o (omega (arith, valid))) (omega (arith, frees-small f lent o (omega (arith, valid))));
    };
    leaves = rw (
      split-is h o c,
      high-page o c,
      first-suc o c,
      two-more,
      blocks-image r h (suc o) (omega (arith, valid)),
      blocks-image r h o (omega (arith, valid)),
      region-two r h h.at (suc o) (h.blocks (suc o) - 1) o (h.blocks o + 2),
      region-list r _ o (cleft h o c).at (lo o c ∷ hi o c ∷ h.list o),
      low-words,
      high-words,
    );
    fits = paint-fits f o (suc o) c free out.cut.managed tt
        (push-core (push-core (halve-core f.within f.core valid out) small upper) small under)
        (then-high (then-high (halve-high h o c valid) (push-high _ o _ small)) (push-high _ o _ small))
        (λ q. ap (λ (g : Heap). g.at q) (split-is h o c));
  }
    where
      two-more : frees_in (image r h) o + 2 ≡ suc (suc (length (h.list o)))
      two-more = omega (arith, frees-image r h o (omega (arith, valid)))

      back : suc o - 1 ≡ o
      back = omega arith

      small : o ≤ 5
      small = omega (arith, valid)

      upper : BlockOut M (halve h o c).at o (c * 2 + 1)
      upper = part_out (c * 2 + 1) (cell-high o c) (halve-out h out)

      under : BlockOut M (push (halve h o c) o (c * 2 + 1)).at o (c * 2)
      under = still-out o (c * 2 + 1) (tag o free) (λ q e x. omega arith) (part_out (c * 2) (cell-low o c) (halve-out h out))
