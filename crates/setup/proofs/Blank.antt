-- Before any page is managed, record and words show the empty heap, whatever the words held before.
use Rattle.common.specs.Kit.{ℕ, ◌-◌, ◌≡◌, sym, ap, ◌∙◌, by_cases, List, length, dec_lt, arith}
use Rattle.words.specs.Word.{mem_of}
use Rattle.words.specs.declared.place.VirtAddr.{VirtAddr}
use Rattle.buddy.specs.Rules.{empty}
use Rattle.buddy.proofs.SetUp.{empty-ready}
use Rattle.pages.specs.Info.{allocated_info}
use Rattle.pages.specs.Fill.{fill}
use Rattle.region.specs.Layout.{bare, end_of, alloc_pages}
use Rattle.region.specs.State.{st}
use Rattle.refine.specs.Image.{table, region_of, words_of, image}
use Rattle.region.specs.declared.HeapMemoryRegion.{HeapMemoryRegion}
use Rattle.refine.specs.Fit.{SoundFit}
use Rattle.refine.proofs.Tables.{is-table}
use Rattle.refine.proofs.Changes.{length-fill, fill_on, fill-off}
use Rattle.refine.proofs.Shown.{shown-meta, off-shown}
use Rattle.setup.specs.Steps.{blank}

pub empty-fit : (r : HeapMemoryRegion) → SoundFit empty.managed r empty.heap
unfolding empty
empty-fit r =
    let e = empty-ready (end_of r) in
    record { fits = record { core = e.sound.core; within = e.bound; holds = λ p t. absurd t; clean = e.clean }; sound = e.sound }

module _ (start : VirtAddr) (n a : ℕ) (ws : List ℕ) (long : length ws ≡ n) where
  blank-words : blank n ws ≡ words_of (bare start n a) empty.heap
  unfolding empty blank words_of
  blank-words = is-table _ n _ (length-fill e _ (n - e) _ ∙ low ∙ long) (λ i l. by_cases (dec_lt i e)
      (λ b. fill-off e _ (n - e) _ i (λ x _. omega arith) ∙ fill_on 0 _ e ws i (omega arith) (omega arith) (omega arith)
      ∙ ap mem_of (sym (off-shown (empty-fit (bare start n a)).fits i (λ t. t) b)))
      (λ b. fill_on e _ (n - e) _ i (omega (arith, low)) (omega arith) (omega arith) ∙ ap mem_of (sym (shown-meta e empty.heap i (omega arith)))))
    where
      e : ℕ
      e = alloc_pages n

      low : length (fill 0 (mem_of (allocated_info 0)) e ws) ≡ length ws
      low = length-fill 0 _ e ws

  pub blank-image : st (bare start n a) (blank n ws) ≡ image (bare start n a) empty.heap
  unfolding region_of table empty
  blank-image = rw blank-words
