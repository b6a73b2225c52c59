-- Record and words fix the heap that they show: it is the one read from them, in its tags of managed pages, its lists and its counts.
-- A heap that says nothing more is that heap. This is a result.
use Rattle.common.specs.Kit.{ℕ, ◌≤◌, ◌≡◌, sym, ◌∙◌, by_cases, List, T, dec_lt, arith, lt-ltb}
use Rattle.common.proofs.Tests.{by-test, T_true}
use Rattle.buddy.specs.Heap.{Heap, Core, Clean}
use Rattle.buddy.proofs.Refill.{heap-path}
use Rattle.region.specs.Layout.{end_of, managed}
use Rattle.region.specs.declared.HeapMemoryRegion.{HeapMemoryRegion}
use Rattle.refine.specs.Image.{heap_of, Shows, SoundIn}
use Rattle.refine.proofs.WordsSay.{shows-say, walk-list, tags-told}

-- two heaps are one, as far as record and words show them
pub record Same (r : HeapMemoryRegion) (ws : List ℕ) (h g : Heap) : Type 0 where
  pub tags : (p : ℕ) → T (managed r ws p) → h.at p ≡ g.at p
  pub lists : (o : ℕ) → o ≤ 5 → h.list o ≡ g.list o
  pub counts : (o : ℕ) → o ≤ 5 → h.blocks o ≡ g.blocks o

pub shows-read : (r : HeapMemoryRegion) (ws : List ℕ) (h : Heap) → Core (managed r ws) (end_of r) h → Shows r ws h → Same r ws (heap_of r ws) h
unfolding heap_of
shows-read r ws h core k = record {
  tags = λ p m. rw (T_true (managed r ws p) m) (tags-told (shows-say k) core.tiled p m);
  lists = λ o l. rw (lt-ltb o 6 (omega arith), k.frees o l, k.heads o l) (walk-list (shows-say k) o (core.listed o l));
  counts = k.totals;
}

-- ONE HEAP
pub one-heap : (r : HeapMemoryRegion) (ws : List ℕ) (h g : Heap) → SoundIn r ws h → SoundIn r ws g → Shows r ws h → Shows r ws g → Same r ws h g
one-heap r ws h g s t k j =
    let x = shows-read r ws h s.core k in
    let y = shows-read r ws g t.core j in
    record {
      tags = λ p m. sym (x.tags p m) ∙ y.tags p m;
      lists = λ o l. sym (x.lists o l) ∙ y.lists o l;
      counts = λ o l. sym (x.counts o l) ∙ y.counts o l;
    }

pub clean-same : {r : HeapMemoryRegion} {ws : List ℕ} {h g : Heap} → Clean (managed r ws) h → Clean (managed r ws) g → Same r ws h g → h ≡ g
clean-same {r} {ws} {h} {g} c d s = heap-path h g
    (λ p. by-test (managed r ws p)
    (λ t. s.tags p (rw t tt))
    (λ t. c.tags p (λ x. rw t at x) ∙ sym (d.tags p (λ x. rw t at x))))
    (λ o. by_cases (dec_lt 5 o) (λ l. c.lists o l ∙ sym (d.lists o l)) (λ l. s.lists o (omega arith)))
    (λ o. by_cases (dec_lt 5 o) (λ l. c.counts o l ∙ sym (d.counts o l)) (λ l. s.counts o (omega arith)))
