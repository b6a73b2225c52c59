-- To take a named page out of its list is to take its block: the head as such, a later page by the page before it.
use Rattle.common.specs.Kit.{ℕ, ◌≤◌, ◌<◌, ◌≡◌, refl, sym, ap, ◌∙◌, ◌≢◌, by_cases, Bool, true, List, [], ◌∷◌, Memᴰ, mem-head, mem-not_nil, length, set, ℕ_discrete, arith, eq-eqb, ne_eqb, Some}
use lib.Seq.{set_comm}
use Rattle.common.specs.Numbers.{remove}
use Rattle.common.proofs.Lists.{update_same, update_other, remove-other}
use Rattle.words.specs.Word.{no_page, mem_of}
use Rattle.buddy.specs.Runs.{cell, first}
use Rattle.buddy.specs.Heap.{free, used, tag, FreeHead, Heap}
use Rattle.buddy.specs.Steps.{take, label}
use Rattle.buddy.proofs.RunLaws.{cell-first, head-is}
use Rattle.buddy.proofs.Tags.{kind-of, used≢free}
use Rattle.buddy.proofs.Paint.{FreeBlock, free-cut, paint-in, paint-out}
use Rattle.pages.specs.Info.{free_info, allocated_info}
use Rattle.pages.specs.Said.{said, next_in}
use Rattle.region.specs.State.{head_in, before, cut, pull, pulls, PullOk}
use Rattle.refine.specs.Image.{head_or, next_after, words_of, image}
use Rattle.region.specs.declared.HeapMemoryRegion.{HeapMemoryRegion}
use Rattle.refine.specs.Fit.{Fits}
use Rattle.refine.proofs.Shown.{words_long}
use Rattle.refine.proofs.WordsSay.{image-says, says-free}
use Rattle.refine.proofs.Record.{head-image, frees-image}
use Rattle.refine.proofs.Words.{entry_first, entry-same, words-set, words-paint}
use Rattle.refine.proofs.Step.{Lent, Call}
use Rattle.refine.proofs.Listed.{list-links, list-free, list-below, list-some, free-small, free-listed, take-region, take-fits}
use Rattle.refine.proofs.Take.{Takes, take-image}
use Rattle.refine.proofs.Before.{Walked, walked}

-- taking page p out of list o of the image of h succeeds and leaves the image of g
abbrev pub Pulls : (ℕ → Bool) → HeapMemoryRegion → Heap → ℕ → ℕ → Heap → Type 0
Pulls M r h p o g = Call M r (PullOk p o (image r h)) (pulls p o (image r h)) (pull p o (image r h)) true g

module _ {M : ℕ → Bool} {r : HeapMemoryRegion} {h : Heap} (f : Fits M r h) (lent : Lent r) {o c : ℕ} (b : FreeBlock M h.at o c) where
  abbrev p : ℕ
  p = first o c

  valid : o ≤ 5
  valid = free-small f b

  page-below : (x : ℕ) → Memᴰ x (h.list o) → x < length (words_of r h)
  page-below x m = rw (words_long r h) (omega (arith, list-below f o x valid m))

  -- the list is x and then xs
  module _ (x : ℕ) (xs : List ℕ) (e : h.list o ≡ x ∷ xs) where
    head-some : head_in (image r h) o ≡ x
    head-some = head-image r h o (omega (arith, valid)) ∙ rw e

    not_none : head_in (image r h) o ≢ no_page
    not_none = rw head-some (list-some f lent o x valid (rw e (mem-head refl)))

    pull-first : x ≡ p → Pulls M r h p o (take h o c)
    unfolding pull pulls
    pull-first is = record {
      ok = record { take = t.ok; walk = λ _ d. absurd (d (head-some ∙ is)); cuts = λ _ _ d. absurd (d (head-some ∙ is)) };
      answers = rw (ne_eqb _ _ not_none, eq-eqb _ p (head-some ∙ is));
      leaves = rw (ne_eqb _ _ not_none, eq-eqb _ p (head-some ∙ is)) (t.leaves ∙ rw (is, cell-first o c));
      fits = take-fits f b;
    }
      where
        t : Takes M r h o (Some x) (take h o (cell o x))
        t = take-image f lent o valid x xs e

    module _ (n : x ≢ p) where
      w : Walked (words_of r h) p (h.list o)
      w = walked (words_of r h) p (h.list o) (list-links f lent o valid) (f.core.listed o valid).once
          (λ q m. (page-below q m, list-some f lent o q valid m)) (free-listed f b) (rw e n)

      abbrev q : ℕ
      q = w.page

      q-free : FreeHead M h.at o q
      q-free = list-free f o q valid w.before.member

      q-stays : (take h o c).at q ≡ tag o free
      unfolding take
      q-stays = paint-out h.at o c (tag o used) q (λ z. w.before.apart (head-is o c q q-free.head z)) ∙ q-free.is

      next-p : next_in (said (words_of r h) p) ≡ next_after p (h.list o)
      next-p = ap next_in (says-free (image-says f lent) (list-free f o p valid (free-listed f b)))

      found : before p o (image r h) ≡ Some q
      found = rw (frees-image r h o (omega (arith, valid)), head-image r h o (omega (arith, valid))) w.found

      head-stays : head_in (image r h) o ≡ head_or (remove p (h.list o))
      head-stays = head-some ∙ rw (e, remove-other p x xs n)

      cut-words : set (set (words_of r h) q (mem_of (free_info o (next_in (said (words_of r h) p))))) p (mem_of (allocated_info o)) ≡ words_of r (take h o c)
      unfolding take label
      cut-words = set_comm (words_of r h) q p _ _ w.before.apart
          ∙ ap (λ ws. set ws q (mem_of (free_info o (next_in (said (words_of r h) p)))))
          (words-paint f (label h o c used) o c used (free-cut b) (λ _. refl) (λ _ _ _ _. refl))
          ∙ words-set r (label h o c used) (take h o c) q _ (f.within q q-free.managed)
          (entry_first (take h o c) o q free q-stays q-free.head ∙ ap (free_info o) (rw update_same (w.before.links ∙ sym next-p)))
          (λ y d. entry-same (label h o c used) (take h o c) y refl (λ j is. by_cases (ℕ_discrete j o)
          (λ z. rw update_same (rw z (w.before.others y d (λ i.
          used≢free (kind-of (sym (paint-in h.at o c (tag o used) y (rw i (cell-first o c))) ∙ is))))))
          (λ z. rw update_other)))

      pull-later : Pulls M r h p o (take h o c)
      unfolding pull pulls cut
      pull-later = record {
        ok = record {
          take = (take-image f lent o valid x xs e).ok;
          walk = λ _ _. rw (frees-image r h o (omega (arith, valid)), head-image r h o (omega (arith, valid))) w.ok;
          cuts = λ y _ _ d. record {
            order = omega (arith, valid);
            before = let same : y ≡ q = cc (found) in rw same (page-below q w.before.member);
            page = page-below p (free-listed f b);
            some = rw (frees-image r h o (omega (arith, valid)), e) (omega arith);
          };
        };
        answers = rw (ne_eqb _ _ not_none, ne_eqb _ p other, found);
        leaves = rw (ne_eqb _ _ not_none, ne_eqb _ p other, found, head-stays, take-region f b, cut-words);
        fits = take-fits f b;
      }
        where
          other : head_in (image r h) o ≢ p
          other = rw head-some n

  pub pull-image : Pulls M r h p o (take h o c)
  pull-image = go (h.list o) refl
    where
      go : (l : List ℕ) → h.list o ≡ l → Pulls M r h p o (take h o c)
      go [] e = absurd (mem-not_nil (rw e at (free-listed f b)))
      go (x ∷ xs) e = by_cases (ℕ_discrete x p) (pull-first x xs e) (pull-later x xs e)
