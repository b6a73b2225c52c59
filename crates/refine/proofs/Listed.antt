-- The pages on the lists of a heap that fits: where they lie, what their words say, and what the record becomes when one is taken out.
use Rattle.common.specs.Kit.{ℕ, ◌-◌, ◌≤◌, ◌<◌, ◌≡◌, refl, ap, ◌∙◌, ◌≢◌, Bool, Memᴰ, length, arith}
use Rattle.common.specs.Numbers.{remove}
use Rattle.common.proofs.Bounds.{length-remove}
use Rattle.words.specs.Word.{no_page}
use Rattle.buddy.specs.Runs.{first}
use Rattle.buddy.specs.Heap.{used, FreeHead, Heap}
use Rattle.buddy.specs.Steps.{take}
use Rattle.buddy.proofs.RunLaws.{cell-first, head_first}
use Rattle.buddy.proofs.Paint.{FreeBlock, free-cut}
use Rattle.buddy.proofs.Steps.{take-core}
use Rattle.buddy.proofs.Clean.{take-high}
use Rattle.pages.specs.Said.{said, next_in}
use Rattle.region.specs.Layout.{end_of}
use Rattle.region.specs.State.{frees_in, with_list}
use Rattle.refine.specs.Image.{head_or, region_of, words_of, image}
use Rattle.region.specs.declared.HeapMemoryRegion.{HeapMemoryRegion}
use Rattle.refine.specs.Fit.{Fits}
use Rattle.region.proofs.Limits.{pages-small}
use Rattle.refine.proofs.Links.{Links}
use Rattle.refine.proofs.WordsSay.{image-says, links-list}
use Rattle.refine.proofs.Record.{frees-image, region-list}
use Rattle.refine.proofs.Step.{Lent, cut_small, paint-fits}

module _ {M : ℕ → Bool} {r : HeapMemoryRegion} {h : Heap} (f : Fits M r h) where
  module _ (o p : ℕ) (valid : o ≤ 5) (on : Memᴰ p (h.list o)) where
    pub list-free : FreeHead M h.at o p
    list-free = (f.core.listed o valid).sound p on

    pub list-below : p < end_of r
    list-below = f.within p list-free.managed

  -- the free block c of order o
  module _ {o c : ℕ} (b : FreeBlock M h.at o c) where
    pub free-small : o ≤ 5
    free-small = cut_small f (free-cut b)

    pub free-listed : Memᴰ (first o c) (h.list o)
    free-listed = (f.core.listed o free-small).full (first o c)
        (record { managed = b.managed _ (cell-first o c); is = b.is _ (cell-first o c); head = head_first o c })

    pub take-region : with_list (region_of r h) o (head_or (remove (first o c) (h.list o))) (frees_in (image r h) o - 1) ≡ region_of r (take h o c)
    unfolding take
    take-region =
        let left = remove (first o c) (h.list o) in
        let n : frees_in (image r h) o - 1 ≡ length left =
        omega (arith, frees-image r h o (omega (arith, free-small)), length-remove (first o c) (h.list o) free-listed) in
        ap (with_list (region_of r h) o (head_or left)) n ∙ region-list r h o _ left

    pub take-fits : Fits M r (take h o c)
    unfolding take
    take-fits = paint-fits f o o c used b.managed tt (take-core f.core free-small b) (take-high h o c free-small) (λ _. refl)

  -- the words of the lists' pages link them
  module _ (lent : Lent r) where
    pub list-links : (o : ℕ) → o ≤ 5 → Links (λ p. next_in (said (words_of r h) p)) (h.list o)
    list-links o valid = links-list (image-says f lent) o (f.core.listed o valid)

    pub list-some : (o p : ℕ) → o ≤ 5 → Memᴰ p (h.list o) → p ≢ no_page
    list-some o p valid on = omega (arith, list-below o p valid on, pages-small r.page_count lent.most)
