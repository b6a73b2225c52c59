-- To put the first page of a block out at the head of its list is to push the block.
use Rattle.common.specs.Kit.{ℕ, suc, ◌+◌, ◌≤◌, ◌≡◌, refl, sym, ◌∙◌, by_cases, Bool, ◌∷◌, length, set, pow_pos, ℕ_discrete, arith}
use Rattle.words.specs.Word.{mem_of}
use Rattle.buddy.specs.Runs.{first}
use Rattle.buddy.specs.Heap.{free, Heap}
use Rattle.buddy.specs.Steps.{push}
use Rattle.buddy.proofs.RunLaws.{cell-first}
use Rattle.buddy.proofs.Paint.{BlockOut}
use Rattle.buddy.proofs.Steps.{push-core}
use Rattle.buddy.proofs.Clean.{push-high}
use Rattle.buddy.proofs.Refill.{push-head, push-other}
use Rattle.pages.specs.Info.{free_info}
use Rattle.region.specs.State.{head_in, frees_in, put_head, PutOk}
use Rattle.refine.specs.Image.{next_after, words_of, image}
use Rattle.region.specs.declared.HeapMemoryRegion.{HeapMemoryRegion}
use Rattle.refine.specs.Fit.{Fits}
use Rattle.refine.proofs.Links.{after_same, after-other}
use Rattle.refine.proofs.Shown.{words_long}
use Rattle.refine.proofs.Record.{head-image, frees-image, region-list}
use Rattle.refine.proofs.Words.{words-paint}
use Rattle.refine.proofs.Step.{Lent, Step, run-below, cut_small, frees-small, paint-fits}

module _ {M : ℕ → Bool} {r : HeapMemoryRegion} {h : Heap} (f : Fits M r h) (lent : Lent r) {o c : ℕ} (out : BlockOut M h.at o c) where
  pub put-image : Step M r (PutOk (first o c) o (image r h)) (put_head (first o c) o (image r h)) (push h o c)
  unfolding put_head push
  put-image = record {
    ok = record {
      order = omega (arith, valid);
      page = rw (words_long r h) (omega (arith, run-below f out.cut, pow_pos o));
      count = rw (frees-image r h o (omega (arith, valid))) (omega (arith, frees-small f lent o valid));
    };
    leaves = rw (one_more, region-list r h o (push h o c).at (first o c ∷ h.list o), words);
    fits = paint-fits f o o c free out.cut.managed tt (push-core f.core valid out) (push-high h o c valid) (λ _. refl);
  }
    where
      valid : o ≤ 5
      valid = cut_small f out.cut

      one_more : frees_in (image r h) o + 1 ≡ suc (length (h.list o))
      one_more = omega (arith, frees-image r h o (omega (arith, valid)))

      after : next_after (first o c) ((push h o c).list o) ≡ head_in (image r h) o
      after = rw push-head (after_same (first o c) (first o c) (h.list o) refl ∙ sym (head-image r h o (omega (arith, valid))))

      words : set (words_of r h) (first o c) (mem_of (free_info o (head_in (image r h) o))) ≡ words_of r (push h o c)
      words = rw after at (words-paint f (push h o c) o c free out.cut (λ _. refl) (λ j q n _. by_cases (ℕ_discrete j o)
          (λ e. rw (e, push-head h o c) (after-other q (first o c) (h.list o) (λ x. n (rw (← x) (cell-first o c)))))
          (λ e. rw (push-other h o c j e))))
