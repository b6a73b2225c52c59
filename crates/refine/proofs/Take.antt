-- To take the head of a list off is to take its block; an empty list stays.
use Rattle.common.specs.Kit.{ℕ, ◌≤◌, ◌≡◌, refl, sym, ◌∙◌, ◌≢◌, by_cases, Bool, List, [], ◌∷◌, Memᴰ, mem-head, set, ℕ_discrete, arith, eq-eqb, ne_eqb, Option, Some, None}
use Rattle.common.specs.Numbers.{remove}
use Rattle.common.proofs.Lists.{update_same, update_other, remove-same}
use Rattle.words.specs.Word.{no_page, mem_of}
use Rattle.buddy.specs.Runs.{cell, first}
use Rattle.buddy.specs.Heap.{used, Heap}
use Rattle.buddy.specs.Steps.{take}
use Rattle.buddy.proofs.RunLaws.{cell-first}
use Rattle.buddy.proofs.Paint.{FreeBlock, free-block, free-cut}
use Rattle.pages.specs.Info.{allocated_info}
use Rattle.pages.specs.Said.{said, next_in}
use Rattle.region.specs.State.{head_in, head_taken, take_head, TakeOk}
use Rattle.refine.specs.Image.{head_or, words_of, image}
use Rattle.region.specs.declared.HeapMemoryRegion.{HeapMemoryRegion}
use Rattle.refine.specs.Fit.{Fits}
use Rattle.refine.proofs.Links.{after-other}
use Rattle.refine.proofs.Shown.{words_long}
use Rattle.refine.proofs.Record.{head-image, frees-image}
use Rattle.refine.proofs.Words.{words-paint}
use Rattle.refine.proofs.Step.{Lent, Call}
use Rattle.refine.proofs.Listed.{list-links, list-free, list-below, list-some, take-region, take-fits}

-- taking the head of list o off the image of h answers x and leaves the image of g
abbrev pub Takes : (ℕ → Bool) → HeapMemoryRegion → Heap → ℕ → Option ℕ → Heap → Type 0
Takes M r h o x g = Call M r (TakeOk o (image r h)) (head_taken o (image r h)) (take_head o (image r h)) x g

module _ {M : ℕ → Bool} {r : HeapMemoryRegion} {h : Heap} (f : Fits M r h) (lent : Lent r) (o : ℕ) (valid : o ≤ 5) where
  pub take_none : h.list o ≡ [] → Takes M r h o None h
  unfolding head_taken take_head
  take_none e = record {
    ok = record { order = omega arith; head = λ n. absurd (n none); some = λ n. absurd (n none) };
    answers = rw (eq-eqb (head_in (image r h) o) no_page none);
    leaves = rw (eq-eqb (head_in (image r h) o) no_page none);
    fits = f;
  }
    where
      none : head_in (image r h) o ≡ no_page
      none = head-image r h o (omega arith) ∙ rw e

  head-taken : (c : ℕ) (ps : List ℕ) → h.list o ≡ first o c ∷ ps → Takes M r h o (Some (first o c)) (take h o c)
  unfolding head_taken take_head take
  head-taken c ps e = record {
    ok = record {
      order = omega arith;
      head = λ _. rw (is, words_long r h) (omega (arith, list-below f o p valid on));
      some = λ _. rw (frees-image r h o (omega arith), e) (omega arith);
    };
    answers = rw (ne_eqb (head_in (image r h) o) no_page (rw is some), is);
    leaves = rw (ne_eqb (head_in (image r h) o) no_page (rw is some), is, next, take-region f block, words);
    fits = take-fits f block;
  }
    where
      p : ℕ
      p = first o c

      on : Memᴰ p (h.list o)
      on = rw e (mem-head refl)

      some : p ≢ no_page
      some = list-some f lent o p valid on

      block : FreeBlock M h.at o c
      block = free-block o c f.core.tiled (list-free f o p valid on)

      is : head_in (image r h) o ≡ p
      is = head-image r h o (omega arith) ∙ rw e

      next : next_in (said (words_of r h) p) ≡ head_or (remove p (h.list o))
      next = (rw e at (list-links f lent o valid)).0 ∙ rw (e, remove-same p p ps refl)

      words : set (words_of r h) p (mem_of (allocated_info o)) ≡ words_of r (take h o c)
      words = words-paint f (take h o c) o c used (free-cut block) (λ _. refl) (λ j q n _. by_cases (ℕ_discrete j o)
          (λ d. rw update_same (rw (d, e, remove-same p p ps refl) (sym (after-other q p ps (λ x. n (rw (← x) (cell-first o c)))))))
          (λ d. rw update_other))

  pub take-image : (p : ℕ) (ps : List ℕ) → h.list o ≡ p ∷ ps → Takes M r h o (Some p) (take h o (cell o p))
  take-image p ps e =
      let hd : first o (cell o p) ≡ p = (list-free f o p valid (rw e (mem-head refl))).head in
      rw hd at (head-taken (cell o p) ps (e ∙ rw hd))
