-- Words that say what a tiled heap says, page by page: its heads are the words that head a block, its free heads the Free words, and reading
-- the words gives its tags and its lists back.
use Rattle.common.specs.Kit.{ℕ, ◌<◌, ◌≡◌, refl, sym, ap, ◌∙◌, ◌≢◌, by_cases, Bool, ◌&&◌, List, T, eqb, length, ℕ_discrete, arith, eq-eqb, ne_eqb, Some}
use Rattle.common.proofs.Tests.{by-test}
use Rattle.buddy.specs.Runs.{start, Head}
use Rattle.buddy.specs.Heap.{Tiled, FreeHead, Listed, heads, Heap}
use Rattle.buddy.proofs.RunLaws.{cell-start, head-start}
use Rattle.buddy.proofs.Tags.{tag-path}
use Rattle.buddy.proofs.Blocks.{heads-no}
use Rattle.pages.specs.Info.{free_info, compound_info}
use Rattle.pages.specs.Said.{said, next_in}
use Rattle.pages.specs.Meaning.{no_order, head_order, free_order, order_said}
use Rattle.region.specs.Layout.{end_of, managed}
use Rattle.refine.specs.Image.{head_or, next_after, head_info, entry, tag_said, walk, words_of, Shows}
use Rattle.refine.specs.Fit.{Fits}
use Rattle.region.specs.declared.HeapMemoryRegion.{HeapMemoryRegion}
use Rattle.refine.proofs.Links.{Links, after-links, walk-links}
use Rattle.refine.proofs.Shown.{shown-in, entry-head, entry-tail, words-say}
use Rattle.refine.proofs.Meanings.{head-kind, head-order, head-tells, head-free}
use Rattle.refine.proofs.Step.{Lent}

-- the words of the pages of M say what heap h says of them
pub record Says (M : ℕ → Bool) (ws : List ℕ) (h : Heap) : Type 0 where
  pub each : (p : ℕ) → T (M p) → said ws p ≡ Some (entry h p)

-- what record and words show, they say
pub shows-say : {r : HeapMemoryRegion} {ws : List ℕ} {h : Heap} → Shows r ws h → Says (managed r ws) ws h
shows-say k = record { each = k.words }

-- what a heap that fits shows, its words say
pub image-says : {M : ℕ → Bool} {r : HeapMemoryRegion} {h : Heap} → Fits M r h → Lent r → Says M (words_of r h) h
image-says {r = r} {h = h} f lent = record {
  each = λ p m. let l = f.within p m in words-say f lent p (omega arith) ∙ ap Some (shown-in (end_of r) h p l);
}

module _ {M : ℕ → Bool} {ws : List ℕ} {h : Heap} (says : Says M ws h) where
  pub says-head : (p : ℕ) → T (M p) → Head (h.at p).order p
      → said ws p ≡ Some (head_info (h.at p).kind (h.at p).order (next_after p (h.list (h.at p).order)))
  says-head p m e = says.each p m ∙ ap Some (entry-head h p e)

  pub says-tail : (p : ℕ) → T (M p) → start (h.at p).order p ≢ p → said ws p ≡ Some (compound_info (h.at p).order)
  says-tail p m e = says.each p m ∙ ap Some (entry-tail h p e)

  pub says-free : {o p : ℕ} → FreeHead M h.at o p → said ws p ≡ Some (free_info o (next_after p (h.list o)))
  says-free {p = p} f = rw f.is at (says-head p f.managed (rw f.is f.head))

  pub links-list : (o : ℕ) → Listed M h.at o (h.list o) → Links (λ p. next_in (said ws p)) (h.list o)
  links-list o k = after-links _ (h.list o) k.once (λ x m. ap next_in (says-free (k.sound x m)))

  pub walk-list : (o : ℕ) → Listed M h.at o (h.list o) → walk ws (length (h.list o)) (head_or (h.list o)) ≡ h.list o
  walk-list o k = walk-links ws (h.list o) (links-list o k)

  module _ (tiled : Tiled M h.at) where
    -- the word at the start of the block around page p
    pub says_first : (p : ℕ) → T (M p)
        → said ws (start (h.at p).order p)
        ≡ Some (head_info (h.at p).kind (h.at p).order (next_after (start (h.at p).order p) (h.list (h.at p).order)))
    says_first p m =
        let c = cell-start (h.at p).order p in
        let same : h.at (start (h.at p).order p) ≡ h.at p = (tiled p m).same _ c in
        rw same at (says-head _ ((tiled p m).inside _ c) (rw same (head-start (h.at p).order p)))

    pub first-told : (p : ℕ) → T (M p) → head_order (said ws (start (h.at p).order p)) ≡ (h.at p).order
    first-told p m = rw (says_first p m) (head-tells (h.at p).kind (h.at p).order _ (tiled p m).fits)

    pub heads-told : (o p : ℕ) → o < 6 → heads M h.at o p ≡ (M p && eqb (head_order (said ws p)) o)
    heads-told o p s = by-test (M p)
        (λ t. let m : T (M p) = rw t tt in by_cases (ℕ_discrete (start (h.at p).order p) p)
        (λ e. rw (t, rw e at (first-told p m)) (by_cases (ℕ_discrete (h.at p).order o)
        (λ d. rw (eq-eqb _ o d) (eq-eqb (start o p) p (rw d at e)))
        (λ d. rw (ne_eqb _ o d))))
        (λ e. heads-no M h.at o p (λ _ d x. e (rw d x)) ∙ rw (t, says-tail p m e, ne_eqb no_order o (omega arith))))
        (λ t. rw t)

    pub free-told : (o p : ℕ) → o < 6 → T (M p) → free_order (said ws p) ≡ o → FreeHead M h.at o p
    free-told o p s m f = by_cases (ℕ_discrete (start (h.at p).order p) p)
        (λ e.
        let b = head-free (h.at p).kind (h.at p).order _ o s (rw (says-head p m e) at f) in
        record { managed = m; is = tag-path (h.at p) b.1 b.0; head = rw b.1 at e })
        (λ e. absurd (omega (arith, rw (says-tail p m e) at f)))

    -- the tags that the words tell
    pub tags-told : (p : ℕ) → T (M p) → tag_said ws p ≡ h.at p
    unfolding tag_said
    tags-told p m = rw (order, says_first p m) (sym (tag-path (h.at p) refl (sym (head-kind (h.at p).kind (h.at p).order _ (tiled p m).fits))))
      where
        order : order_said (said ws p) ≡ (h.at p).order
        order = by_cases (ℕ_discrete (start (h.at p).order p) p)
            (λ e. rw (says-head p m e) (head-order (h.at p).kind (h.at p).order _ (tiled p m).fits))
            (λ e. rw (says-tail p m e))
