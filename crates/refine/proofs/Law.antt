-- The law of soundness: record and words are sound exactly when they show a sound heap. It holds of any record and any list of numbers; the heap
-- is the one that `heap_of` reads. The laws at the end are results.
use Rattle.common.specs.Kit.{ℕ, ◌<◌, ◌≡◌, refl, sym, ap, ◌∙◌, ◌≢◌, ◌↔◌, List, T, length, get_or, arith, lt-ltb, Some, None}
use Rattle.common.proofs.Tests.{T_true}
use Rattle.words.specs.declared.word.PageInfo.{PageInfo}
use Rattle.buddy.specs.Heap.{Tiled, Heap}
use Rattle.pages.specs.Said.{said}
use Rattle.region.specs.Layout.{end_of, managed}
use Rattle.region.specs.Sound.{Sound}
use Rattle.region.specs.declared.HeapMemoryRegion.{HeapMemoryRegion}
use Rattle.refine.specs.Image.{head_or, tag_said, heap_of, Shows, SoundIn}
use Rattle.refine.proofs.Managed.{managed-below, by-page}
use Rattle.refine.proofs.Links.{links-after, walk-links}
use Rattle.refine.proofs.FreeLists.{linked-head, linked-links, linked-full, linked_long}
use Rattle.refine.proofs.WordsSay.{Says, shows-say}
use Rattle.refine.proofs.SoundLines.{tiled-words, blocks-told, buddies-apart, apart-buddies, listed-list, listed-long, list-listed}
use Rattle.refine.proofs.Read.{tags-tiled, tags-say}

module _ (r : HeapMemoryRegion) (ws : List ℕ) where
  module _ (s : Sound r ws) where
    list-long : (o : ℕ) (l : o < 6) → length (s.lists o l).list ≡ get_or r.free_pages o 0
    list-long o l = linked_long (s.lists o l) (end_of r) (managed-below r ws) ∙ sym (s.free o l)

    read-list : (o : ℕ) (l : o < 6) → (heap_of r ws).list o ≡ (s.lists o l).list
    unfolding heap_of
    read-list o l =
        let f = s.lists o l in
        rw (lt-ltb o 6 l, ← list-long o l, linked-head f) (walk-links ws f.list (linked-links f))

    read-tags : (p : ℕ) → T (managed r ws p) → (heap_of r ws).at p ≡ tag_said ws p
    unfolding heap_of
    read-tags p m = rw (T_true (managed r ws p) m)

    read-tiled : Tiled (managed r ws) (heap_of r ws).at
    read-tiled = tags-tiled (heap_of r ws).at read-tags s.tiled

    read-says : Says (managed r ws) ws (heap_of r ws)
    read-says = tags-say (heap_of r ws) read-tags
        (λ o p l f. rw (read-list o l) (links-after _ _ (linked-links (s.lists o l)) p (linked-full (s.lists o l) p f)))
        s.tiled

    -- the heap read is sound
    pub read-sound : SoundIn r ws (heap_of r ws)
    unfolding heap_of
    read-sound = record {
      core = record {
        tiled = read-tiled;
        listed = λ o l. let k : o < 6 = omega arith in rw (read-list o k) (list-listed read-says read-tiled k (s.lists o k));
        counted = λ o l. let k : o < 6 = omega arith in s.totals o k ∙ sym (blocks-told read-says read-tiled o (end_of r) k);
      };
      apart = buddies-apart read-says read-tiled s.buddies;
    }

    -- and shown
    pub read-shows : Shows r ws (heap_of r ws)
    unfolding heap_of
    read-shows = record {
      limits = s.limits;
      boot = s.boot;
      metadata = s.metadata;
      words = read-says.each;
      totals = λ o l. refl;
      frees = λ o l. let k : o < 6 = omega arith in sym (ap length (read-list o k) ∙ list-long o k);
      heads = λ o l. let k : o < 6 = omega arith in linked-head (s.lists o k) ∙ ap head_or (sym (read-list o k));
    }

  -- and the other way round
  pub shows-sound : (h : Heap) → SoundIn r ws h → Shows r ws h → Sound r ws
  shows-sound h s k =
      let says = shows-say k in
      let tiled = s.core.tiled in
      record {
        limits = k.limits;
        boot = k.boot;
        metadata = k.metadata;
        tiled = tiled-words says tiled;
        lists = λ o l. rw (k.heads o (omega arith)) (listed-list says tiled o l (s.core.listed o (omega arith)));
        buddies = apart-buddies says tiled s.apart;
        totals = λ o l. k.totals o (omega arith) ∙ s.core.counted o (omega arith) ∙ blocks-told says tiled o (end_of r) l;
        free = λ o l. k.frees o (omega arith) ∙ listed-long says tiled o (end_of r) l (managed-below r ws) (s.core.listed o (omega arith));
      }

-- THE LAW
pub sound-law : (r : HeapMemoryRegion) (ws : List ℕ) → Sound r ws ↔ ((h : Heap) × SoundIn r ws h × Shows r ws h)
sound-law r ws = ((λ s. (heap_of r ws, read-sound r ws s, read-shows r ws s)), λ x. shows-sound r ws x.0 x.1 x.2)

-- what a page of a region says that shows a heap
shows-info : {r : HeapMemoryRegion} {ws : List ℕ} {h : Heap} → Shows r ws h → (p : ℕ) → p < r.page_count → (i : PageInfo) × (said ws p ≡ Some i)
shows-info {r} {ws} k p l = by-page r ws p (λ b. (_, k.boot.each p (omega arith) b)) (λ m. (_, k.words p m)) (λ e. (_, k.metadata.each p e l))

-- so every word of a sound region decodes
pub sound-decodes : (r : HeapMemoryRegion) (ws : List ℕ) → Sound r ws → (p : ℕ) → p < r.page_count → said ws p ≢ None
sound-decodes r ws s p l e = let k = (shows-info (read-shows r ws s) p l).1 in let z : ◌≡◌ {A = ℕ} 0 1 = cc in omega arith
