-- Sound records and words of the code's types, and heaps that fit the region and are sound, are one and the same thing: reading and writing
-- undo each other. These are results.
use Rattle.common.specs.Kit.{ℕ, ◌^◌, ◌≡◌, refl, sym, ap, ◌∙◌, subst, Bool, true, List, T, get_or, get_or-eq_default, arith, le-ltb, ltb-true, Some}
use Rattle.common.proofs.Tests.{T_false}
use Rattle.words.specs.Word.{in_table}
use Rattle.words.proofs.Fields.{word_fits}
use Rattle.words.proofs.Laws.{mem_word}
use Rattle.buddy.specs.Runs.{start}
use Rattle.buddy.specs.Heap.{Kind, free, used, slab, file, Heap, Core, SoundHeap, Clean}
use Rattle.buddy.proofs.RunLaws.{cell-start}
use Rattle.region.specs.Layout.{end_of, managed}
use Rattle.region.specs.Sound.{Sound}
use Rattle.region.specs.State.{st}
use Rattle.region.specs.declared.HeapMemoryRegion.{HeapMemoryRegion}
use Rattle.refine.specs.Image.{head_info, shown, heap_of, region_of, words_of, image, Shows, Typed}
use Rattle.refine.specs.Fit.{Holds, Fits, SoundFit}
use Rattle.refine.proofs.Managed.{managed-below, boot-not-managed, managed-image}
use Rattle.refine.proofs.Tables.{length-table}
use Rattle.refine.proofs.Shown.{shown-meta, off-shown, words_long, word_at, shown-word, words-say}
use Rattle.refine.proofs.WordsSay.{shows-say, image-says, says_first}
use Rattle.refine.proofs.Law.{read-sound, read-shows, shows-sound}
use Rattle.refine.proofs.OneHeap.{shows-read, clean-same}
use Rattle.refine.proofs.OneImage.{said_in, one-image}
use Rattle.refine.proofs.Record.{head-image, frees-image, blocks-image}
use Rattle.refine.proofs.Step.{Lent}

in-holds : (k : Kind) (o next : ℕ) → in_table (head_info k o next) ≡ true → Holds k
in-holds free o next t = tt
in-holds used o next t = tt
in-holds (slab i) o next t = tt
in-holds (file n) o next t = ltb-true n (2 ^ 60) t

-- what is read says nothing more than what is shown
read-clean : (r : HeapMemoryRegion) (ws : List ℕ) → Typed r ws → Clean (managed r ws) (heap_of r ws)
unfolding heap_of
read-clean r ws typed = record {
  tags = λ p m. rw (T_false (managed r ws p) m);
  lists = λ o l. rw (le-ltb o 6 l);
  counts = λ o l. get_or-eq_default r.nr_pages 0 (omega (arith, typed.nr));
}

-- WRITE: a heap that fits is written as record and words that show it, by words of 64 bits
pub write-typed : (M : ℕ → Bool) (r : HeapMemoryRegion) (h : Heap) → Lent r → Fits M r h → Typed (region_of r h) (words_of r h)
unfolding region_of
write-typed M r h lent fits = record {
  nr = length-table _ 0 6;
  frees = length-table _ 0 6;
  heads = length-table _ 0 6;
  bits = λ p l. rw (word_at r h p (omega (arith, words_long r h)), mem_word _ (shown-word fits lent p))
      (word_fits (shown (end_of r) h p) (shown-word fits lent p));
}

module _ (r : HeapMemoryRegion) (ws : List ℕ) (h : Heap) (lent : Lent r) (fits : Fits (managed r ws) r h) where
  pub write-shows : Shows (region_of r h) (words_of r h) h
  unfolding region_of
  write-shows = record {
    limits = rw (words_long r h) lent;
    boot = record {
      each = λ p _ l. words-say fits lent p (omega (arith, lent.boot))
          ∙ ap Some (off-shown fits p (boot-not-managed r ws p l) (omega (arith, lent.boot)));
    };
    metadata = record { each = λ p e l. words-say fits lent p l ∙ ap Some (shown-meta (end_of r) h p e) };
    words = λ p m. (image-says fits lent).each p (subst (λ (M : ℕ → Bool). T (M p)) (managed-image r h ws) m);
    totals = λ o l. blocks-image r h o (omega arith);
    frees = λ o l. frees-image r h o (omega arith);
    heads = λ o l. head-image r h o (omega arith);
  }

  -- and read back as it was
  pub write_read : heap_of (region_of r h) (words_of r h) ≡ h
  unfolding region_of
  write_read =
      let there = subst (λ (M : ℕ → Bool). Fits M r h) (sym (managed-image r h ws)) fits in
      clean-same (read-clean (region_of r h) (words_of r h) (write-typed _ r h lent fits)) there.clean
      (shows-read (region_of r h) (words_of r h) h there.core write-shows)

-- and if the heap is sound, so are record and words
pub write-sound : (r : HeapMemoryRegion) (ws : List ℕ) (h : Heap) → Lent r → SoundFit (managed r ws) r h → Sound (region_of r h) (words_of r h)
unfolding region_of
write-sound r ws h lent f = shows-sound (region_of r h) (words_of r h) h
    (subst (λ (M : ℕ → Bool). SoundHeap M (end_of r) h) (sym (managed-image r h ws)) f.sound)
    (write-shows r ws h lent f.fits)

module _ (r : HeapMemoryRegion) (ws : List ℕ) (typed : Typed r ws) where
  -- words of 64 bits show kinds that they can hold
  shows-holds : (h : Heap) → Core (managed r ws) (end_of r) h → Shows r ws h → (p : ℕ) → T (managed r ws p) → Holds (h.at p).kind
  shows-holds h core k p m = in-holds (h.at p).kind (h.at p).order _
      (said_in (get_or ws s 0) _ (typed.bits s (omega (arith, k.limits.long, managed-below r ws s in-s))) (says_first (shows-say k) core.tiled p m))
    where
      s : ℕ
      s = start (h.at p).order p

      in-s : T (managed r ws s)
      in-s = (core.tiled p m).inside s (cell-start (h.at p).order p)

  -- READ: sound record and words show a sound heap that fits
  pub read-fit : Sound r ws → SoundFit (managed r ws) r (heap_of r ws)
  read-fit s = record {
    fits = record {
      core = (read-sound r ws s).core;
      within = managed-below r ws;
      holds = shows-holds (heap_of r ws) (read-sound r ws s).core (read-shows r ws s);
      clean = read-clean r ws typed;
    };
    sound = read-sound r ws s;
  }

  -- and it is written back as it was
  pub read-write : Sound r ws → image r (heap_of r ws) ≡ st r ws
  unfolding region_of
  read-write s =
      let f = (read-fit s).fits in
      let lent : Lent r = rw s.limits.long at s.limits in
      one-image _ r _ ws (heap_of r ws) (write-typed _ r _ lent f) typed (write-shows r ws _ lent f) (read-shows r ws s) refl refl refl
