-- From tiled words to a tiled heap: all pages of a block tell one tag, so the tags that the words tell are tiled, and a heap with these tags
-- and with lists that have the next fields says what the words say.
use Rattle.common.specs.Kit.{ℕ, ◌+◌, ◌^◌, ◌≤◌, ◌<◌, ◌≡◌, sym, ap, ◌∙◌, ◌≢◌, by_cases, Bool, List, T, pow_pos, ℕ_discrete, arith, Some}
use Rattle.buddy.specs.Runs.{cell, first, start, Head}
use Rattle.buddy.specs.Heap.{Kind, free, Tag, tag, Heap}
use Rattle.buddy.specs.Heap as Buddy
use Rattle.pages.specs.Said.{said, next_in}
use Rattle.pages.specs.Meaning.{free_order, order_said, kind_said}
use Rattle.region.specs.Pages.{Block, Tiled, FreeBlock}
use Rattle.refine.specs.Image.{next_after, head_info, entry, tag_said}
use Rattle.refine.proofs.Shown.{entry-head, entry-tail}
use Rattle.refine.proofs.Meanings.{head-kind, head-order, head-same, HeadWord, tells-head}
use Rattle.refine.proofs.Buddies.{head-mod, run_at, run_in}
use Rattle.refine.proofs.WordsSay.{Says}

module _ {M : ℕ → Bool} {ws : List ℕ} where
  module _ {s o : ℕ} (b : Block ws M s o) where
    head_at : Head o s
    head_at = head-mod o s b.aligned

    head-word : HeadWord o (said ws s)
    head-word = tells-head o (said ws s) b.small b.head

    -- the pages of the block are those of its run
    run_of : (q : ℕ) → cell o q ≡ cell o s → (s ≤ q) × (q < s + 2 ^ o)
    run_of q x = rw head_at at (run_at o (cell o s) q x)

    in-run : (q : ℕ) → s ≤ q → q < s + 2 ^ o → cell o q ≡ cell o s
    in-run q x y = run_in o (cell o s) q (rw head_at x) (rw head_at y)

    start-at : (q : ℕ) → s ≤ q → q < s + 2 ^ o → start o q ≡ s
    start-at q x y = ap (first o) (in-run q x y) ∙ head_at

    order-at : (q : ℕ) → s ≤ q → q < s + 2 ^ o → order_said (said ws q) ≡ o
    order-at q x y = by_cases (ℕ_discrete q s)
        (λ d. rw d (rw head-word.is (head-order head-word.kind o _ head-word.fits)))
        (λ d. ap order_said (b.rest.each q (omega arith) y))

    tag_at : (q : ℕ) → s ≤ q → q < s + 2 ^ o → tag_said ws q ≡ tag o head-word.kind
    unfolding tag_said
    tag_at q x y =
        rw (order-at q x y, start-at q x y) (ap (tag o) (ap kind_said head-word.is ∙ head-kind head-word.kind o _ head-word.fits))

  -- tags of the pages of M that are those of the words
  module _ (at : ℕ → Tag) (tags : (p : ℕ) → T (M p) → at p ≡ tag_said ws p) where
    here : {s o : ℕ} (b : Block ws M s o) (q : ℕ) → s ≤ q → q < s + 2 ^ o → at q ≡ tag o (head-word b).kind
    here b q x y = tags q (b.inside q x y) ∙ tag_at b q x y

    block-at : {s o : ℕ} → Block ws M s o → (p : ℕ) → s ≤ p → p < s + 2 ^ o → Buddy.Block M at p
    block-at {s} {o} b p x y = record {
      fits = rw mine (head-word b).fits;
      inside = λ q k. let r = run_of b q (near q k) in b.inside q r.0 r.1;
      same = λ q k. let r = run_of b q (near q k) in here b q r.0 r.1 ∙ sym mine;
    }
      where
        mine : at p ≡ tag o (head-word b).kind
        mine = here b p x y

        near : (q : ℕ) → cell (at p).order q ≡ cell (at p).order p → cell o q ≡ cell o s
        near q k = (rw mine at k) ∙ in-run b p x y

    pub tags-tiled : Tiled ws M → Buddy.Tiled M at
    tags-tiled tiled p m = let i = tiled.each p m in block-at i.block p i.low i.high

  module _ (h : Heap) (tags : (p : ℕ) → T (M p) → h.at p ≡ tag_said ws p)
      (next : (o p : ℕ) → o < 6 → FreeBlock ws M o p → next_in (said ws p) ≡ next_after p (h.list o)) where
    head-says : {s o : ℕ} → Block ws M s o → said ws s ≡ Some (entry h s)
    head-says {s} {o} b = (head-word b).is ∙ ap Some (head-same k o _ _ links ∙ sym (rw mine at (entry-head h s (rw mine (head_at b)))))
      where
        k : Kind
        k = (head-word b).kind

        mine : h.at s ≡ tag o k
        mine = here h.at tags b s (omega arith) (omega (arith, pow_pos o))

        links : k ≡ free → next_in (said ws s) ≡ next_after s (h.list o)
        links d = next o s b.small (record {
          managed = b.inside s (omega arith) (omega (arith, pow_pos o));
          is = ap free_order (head-word b).is ∙ ap (λ j. free_order (Some (head_info j o (next_in (said ws s))))) d;
        })

    tail-says : {s o : ℕ} → Block ws M s o → (q : ℕ) → s < q → q < s + 2 ^ o → said ws q ≡ Some (entry h q)
    tail-says {s} {o} b q x y = b.rest.each q (omega arith) y ∙ ap Some (sym (rw mine at (entry-tail h q (rw mine inner))))
      where
        inner : start o q ≢ q
        inner d = omega (arith, start-at b q (omega arith) y)

        mine : h.at q ≡ tag o (head-word b).kind
        mine = here h.at tags b q (omega arith) y

    pub tags-say : Tiled ws M → Says M ws h
    tags-say tiled = record {
      each = λ p m.
          let i = tiled.each p m in
          by_cases (ℕ_discrete p i.page) (λ d. rw d (head-says i.block)) (λ d. tail-says i.block p (omega (arith, i.low)) i.high);
    }
