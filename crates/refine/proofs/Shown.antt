-- What is shown of a page: of one below the metadata pages and of one of them, of a block's head and of its other pages. The words of a heap that
-- fits its region say it: its orders, kinds and next pages are all in the table of words.
use Rattle.common.specs.Kit.{ℕ, ◌^◌, ◌≤◌, ◌<◌, ◌≡◌, ap, ◌∙◌, ◌≢◌, ◌⊎◌, ⊎_elim, by_cases, Bool, true, Memᴰ, T, leb, length, get_or, ℕ_discrete, dec_lt, arith, eq-eqb, ne_eqb, lt-ltb, le-ltb, leb-true, Some}
use Rattle.common.proofs.Tests.{by-test, and-true}
use Rattle.words.specs.Word.{no_page, no_next, has_field, in_table, decode_of, mem_of}
use Rattle.words.proofs.Laws.{decode-word, mem_word}
use Rattle.buddy.specs.Runs.{start, Head}
use Rattle.buddy.specs.Heap.{Kind, free, used, slab, file, tag, Heap}
use Rattle.buddy.specs.Heap as Buddy
use Rattle.buddy.proofs.RunLaws.{start-le, lt-end}
use Rattle.buddy.proofs.Clear.{order_small}
use Rattle.pages.specs.Info.{allocated_info, compound_info, reserved_info}
use Rattle.pages.specs.Said.{said}
use Rattle.region.specs.Layout.{end_of}
use Rattle.region.specs.declared.HeapMemoryRegion.{HeapMemoryRegion}
use Rattle.region.proofs.Limits.{pages-small}
use Rattle.refine.specs.Image.{next_after, head_info, entry, shown, words_of}
use Rattle.refine.specs.Fit.{Holds, Fits}
use Rattle.refine.proofs.Tables.{length-table, get_d-table}
use Rattle.refine.proofs.Links.{after-in}
use Rattle.refine.proofs.Step.{Lent}

module _ (e : ℕ) (h : Heap) (p : ℕ) where
  pub shown-in : p < e → shown e h p ≡ entry h p
  unfolding shown
  shown-in l = rw (lt-ltb p e l)

  pub shown-meta : e ≤ p → shown e h p ≡ reserved_info
  unfolding shown
  shown-meta l = rw (le-ltb p e l)

-- every page is the first of its run of order 0
pub head-zero : (p : ℕ) → Head 0 p
head-zero p = omega (arith, start-le 0 p, lt-end 0 p)

module _ (h : Heap) (p : ℕ) where
  pub entry-head : Head (h.at p).order p → entry h p ≡ head_info (h.at p).kind (h.at p).order (next_after p (h.list (h.at p).order))
  unfolding entry
  entry-head e = rw (eq-eqb (start (h.at p).order p) p e)

  pub entry-tail : start (h.at p).order p ≢ p → entry h p ≡ compound_info (h.at p).order
  unfolding entry
  entry-tail e = rw (ne_eqb (start (h.at p).order p) p e)

  -- a page that lies in no block shows Allocated 0
  entry-off : h.at p ≡ tag 0 used → entry h p ≡ allocated_info 0
  entry-off e = rw e at (entry-head (rw e (head-zero p)))

head_in_lem : (k : Kind) (o next : ℕ) → Buddy.Fits k o → Holds k → has_field next ≡ true → in_table (head_info k o next) ≡ true
head_in_lem free o next f g n = rw (lt-ltb o 6 (omega arith), n)
head_in_lem used o next f g n = lt-ltb o 6 (omega arith)
head_in_lem (slab i) o next f g n = lt-ltb i (2 ^ 16) (omega (arith, leb-true i 65535 (and-true (leb 1 i) _ f.1).1))
head_in_lem (file c) o next f g n = lt-ltb c (2 ^ 60) g

module _ (r : HeapMemoryRegion) (h : Heap) where
  pub words_long : length (words_of r h) ≡ r.page_count
  unfolding words_of
  words_long = length-table _ 0 r.page_count

  pub word_at : (p : ℕ) → p < r.page_count → get_or (words_of r h) p 0 ≡ mem_of (shown (end_of r) h p)
  unfolding words_of
  word_at p l = get_d-table _ r.page_count p l

module _ {M : ℕ → Bool} {r : HeapMemoryRegion} {h : Heap} (fits : Fits M r h) where
  -- a page of no block shows Allocated 0
  pub off-shown : (p : ℕ) → (T (M p) → ⊥) → p < end_of r → shown (end_of r) h p ≡ allocated_info 0
  off-shown p out l = shown-in (end_of r) h p l ∙ entry-off h p (fits.clean.tags p out)

  module _ (lent : Lent r) where
    block_in : (p : ℕ) → T (M p) → in_table (entry h p) ≡ true
    block_in p m = by_cases (ℕ_discrete (start o p) p)
        (λ e. rw (entry-head h p e)
        (head_in_lem (h.at p).kind o _ (fits.core.tiled p m).fits (fits.holds p m) (near _ (after-in p (h.list o)))))
        (λ e. rw (entry-tail h p e) (lt-ltb o 6 (omega (arith, small))))
      where
        o : ℕ
        o = (h.at p).order

        small : o ≤ 5
        small = order_small M h.at fits.core.tiled p m

        near : (n : ℕ) → (n ≡ no_page) ⊎ Memᴰ n (h.list o) → has_field n ≡ true
        near n = ⊎_elim
            (λ e. rw (eq-eqb n no_page e))
            (λ k.
            let b = fits.within n ((fits.core.listed o small).sound n k).managed in
            let l : n < no_next = omega (arith, pages-small _ lent.most) in
            rw (ne_eqb n no_page (omega arith), lt-ltb n no_next l))

    -- what is shown has a word
    pub shown-word : (p : ℕ) → in_table (shown (end_of r) h p) ≡ true
    shown-word p = by_cases (dec_lt p (end_of r))
        (λ y. by-test (M p)
        (λ m. rw (shown-in (end_of r) h p y) (block_in p (rw m tt)))
        (λ m. rw (off-shown p (λ t. rw m at t) y)))
        (λ y. rw (shown-meta (end_of r) h p (omega arith)))

    pub words-say : (p : ℕ) → p < r.page_count → said (words_of r h) p ≡ Some (shown (end_of r) h p)
    words-say p l = ap decode_of (word_at r h p l ∙ mem_word _ (shown-word p)) ∙ decode-word _ (shown-word p)
