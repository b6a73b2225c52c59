-- The words of an image: what a heap shows of the pages of a run, and what the words become when a head is written, or a head and its run.
use Rattle.common.specs.Kit.{ℕ, ◌-◌, ◌^◌, ◌<◌, ◌≡◌, refl, sym, ap, ◌∙◌, ◌≢◌, by_cases, Bool, List, length, get_or, set, length-set, get_or-set_same, get_or-set_other, ℕ_discrete, arith}
use Rattle.words.specs.Word.{mem_of}
use Rattle.words.specs.declared.word.PageInfo.{PageInfo}
use Rattle.buddy.specs.Runs.{cell, first, Head}
use Rattle.buddy.specs.Heap.{Kind, free, tag, Heap}
use Rattle.buddy.specs.Steps.{paint}
use Rattle.buddy.proofs.RunLaws.{cell-first, head_first, head-is}
use Rattle.buddy.proofs.Tags.{order-of, tag-path}
use Rattle.buddy.proofs.Paint.{Cut, paint-in, paint-out}
use Rattle.pages.specs.Info.{compound_info}
use Rattle.pages.specs.Fill.{mark}
use Rattle.region.specs.Layout.{end_of}
use Rattle.refine.specs.Image.{next_after, head_info, entry, shown, words_of}
use Rattle.region.specs.declared.HeapMemoryRegion.{HeapMemoryRegion}
use Rattle.refine.specs.Fit.{Fits}
use Rattle.refine.proofs.Tables.{is-table}
use Rattle.refine.proofs.Changes.{length-fill, fill_on, fill-off}
use Rattle.refine.proofs.Shown.{shown-in, entry-head, entry-tail, words_long, word_at}
use Rattle.refine.proofs.Meanings.{head-same}
use Rattle.refine.proofs.Buddies.{run_at, run_in}

-- what the pages of a run show: its first page, and the rest
pub entry_first : (h : Heap) (o p : ℕ) (k : Kind) → h.at p ≡ tag o k → Head o p → entry h p ≡ head_info k o (next_after p (h.list o))
entry_first h o p k is hd = rw is at (entry-head h p (rw is hd))

pub entry-rest : (h : Heap) (o c q : ℕ) → (h.at q).order ≡ o → cell o q ≡ c → q ≢ first o c → entry h q ≡ compound_info o
entry-rest h o c q is e n = rw is at (entry-tail h q (rw is (λ x. n (head-is o c q x e))))

-- two heaps show the same of page q: they have one tag there, and if it is free, one page after it
pub entry-same : (h g : Heap) (q : ℕ) → g.at q ≡ h.at q → ((o : ℕ) → h.at q ≡ tag o free → next_after q (g.list o) ≡ next_after q (h.list o))
    → entry g q ≡ entry h q
unfolding entry
entry-same h g q e next =
    let o = (h.at q).order in
    rw (e, head-same (h.at q).kind o (next_after q (g.list o)) (next_after q (h.list o)) (λ k. next o (tag-path (h.at q) refl k)))

module _ (r : HeapMemoryRegion) (h g : Heap) where
  shown-same : (q : ℕ) → entry g q ≡ entry h q → shown (end_of r) g q ≡ shown (end_of r) h q
  unfolding shown
  shown-same q same = rw same

  -- words by their values
  words_are : (l : List ℕ) → length l ≡ r.page_count → ((q : ℕ) → q < r.page_count → get_or l q 0 ≡ mem_of (shown (end_of r) g q)) → l ≡ words_of r g
  unfolding words_of
  words_are = is-table _ r.page_count

  -- after the word of page p is written: the length, its own value, and the value of a page that shows the same in both
  module _ (p v : ℕ) where
    set_long : length (set (words_of r h) p v) ≡ r.page_count
    set_long = length-set (words_of r h) p v ∙ words_long r h

    set_on : p < end_of r → get_or (set (words_of r h) p v) p 0 ≡ v
    set_on l = get_or-set_same (words_of r h) p v 0 (omega (arith, words_long r h))

    set-off : (q : ℕ) → q < r.page_count → q ≢ p → entry g q ≡ entry h q → get_or (set (words_of r h) p v) q 0 ≡ mem_of (shown (end_of r) g q)
    set-off q m e same = get_or-set_other (words_of r h) p q v 0 e ∙ word_at r h q m ∙ ap mem_of (sym (shown-same q same))

  -- the word of one page is written
  pub words-set : (p : ℕ) (i : PageInfo) → p < end_of r → entry g p ≡ i → ((q : ℕ) → q ≢ p → entry g q ≡ entry h q)
      → set (words_of r h) p (mem_of i) ≡ words_of r g
  words-set p i l is same = words_are _ (set_long p _) (λ q m. by_cases (ℕ_discrete q p)
      (λ e. rw e (set_on p _ l ∙ ap mem_of (sym (shown-in (end_of r) g p l ∙ is))))
      (λ e. set-off p _ q m e (same q e)))

  -- the words of a block are written, its head and the rest
  pub words-run : (o c : ℕ) (k : Kind) → ((q : ℕ) → cell o q ≡ c → q < end_of r) → ((q : ℕ) → cell o q ≡ c → g.at q ≡ tag o k)
      → ((q : ℕ) → cell o q ≢ c → entry g q ≡ entry h q)
      → mark (first o c) o (set (words_of r h) (first o c) (mem_of (head_info k o (next_after (first o c) (g.list o))))) ≡ words_of r g
  unfolding mark
  words-run o c k low is same = words_are _ (length-fill _ _ (2 ^ o - 1) _ ∙ set_long (first o c) _) (λ q m. by_cases (ℕ_discrete (cell o q) c)
      (λ e. by_cases (ℕ_discrete q (first o c))
      (λ d. rw d (fill-off _ _ (2 ^ o - 1) _ (first o c) (λ a b. omega arith) ∙ set_on (first o c) _ (low _ (cell-first o c))
      ∙ ap mem_of (sym (shown-in (end_of r) g (first o c) (low _ (cell-first o c))
      ∙ entry_first g o (first o c) k (is _ (cell-first o c)) (head_first o c)))))
      (λ d. let b = run_at o c q e in
      fill_on _ _ (2 ^ o - 1) _ q (rw set_long m) (omega arith) (omega arith)
      ∙ ap mem_of (sym (shown-in (end_of r) g q (low q e) ∙ entry-rest g o c q (order-of (is q e)) e d))))
      (λ e. fill-off _ _ (2 ^ o - 1) _ q (λ a b. e (run_in o c q (omega arith) (omega arith)))
      ∙ set-off (first o c) _ q m (λ d. e (rw d (cell-first o c))) (same q e)))

-- a block becomes one of another kind: only the word of its head is written
pub words-paint : {M : ℕ → Bool} {r : HeapMemoryRegion} {h : Heap} → Fits M r h → (g : Heap) (o c : ℕ) (k : Kind) → Cut M h.at o o c
    → ((q : ℕ) → g.at q ≡ paint h.at o c (tag o k) q)
    → ((j q : ℕ) → cell o q ≢ c → h.at q ≡ tag j free → next_after q (g.list j) ≡ next_after q (h.list j))
    → set (words_of r h) (first o c) (mem_of (head_info k o (next_after (first o c) (g.list o)))) ≡ words_of r g
words-paint {r = r} {h = h} f g o c k cut is next = words-set r h g (first o c) _ (f.within _ (cut.managed _ (cell-first o c)))
    (entry_first g o (first o c) k (is (first o c) ∙ paint-in h.at o c (tag o k) (first o c) (cell-first o c)) (head_first o c))
    (λ q n. by_cases (ℕ_discrete (cell o q) c)
    (λ e. entry-rest g o c q (order-of (is q ∙ paint-in h.at o c (tag o k) q e)) e n ∙ sym (entry-rest h o c q (cut.order q e) e n))
    (λ e. entry-same h g q (is q ∙ paint-out h.at o c (tag o k) q e) (λ j. next j q e)))
