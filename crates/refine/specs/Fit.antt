-- Heaps that a region can hold. The managed pages are a set M below the metadata pages: while the region is set up M grows, and when that is done
-- it is `managed`. A page below the metadata pages and outside M has the clean tag (0, used) and so shows Allocated 0.
use Rattle.std.specs.Prelude.{ℕ, ◌^◌, ◌<◌, Bool, T}
use Rattle.buddy.specs.Heap.{Kind, free, used, slab, file, Heap, Core, SoundHeap, Clean}
use Rattle.region.specs.Layout.{end_of}
use Rattle.region.specs.declared.HeapMemoryRegion.{HeapMemoryRegion}

-- a word can hold the kind: counts have 60 bits
abbrev pub Holds : Kind → Type 0
Holds free = Unit {0}
Holds used = Unit {0}
Holds (slab i) = Unit {0}
Holds (file n) = n < 2 ^ 60

-- the heap over M fits the region: its pages are the region's, its kinds have words, and it says nothing of what no word shows
pub record Fits (M : ℕ → Bool) (r : HeapMemoryRegion) (h : Heap) : Type 0 where
  pub core : Core M (end_of r) h
  pub within : (p : ℕ) → T (M p) → p < end_of r
  pub holds : (p : ℕ) → T (M p) → Holds (h.at p).kind
  pub clean : Clean M h

-- and it is sound
pub record SoundFit (M : ℕ → Bool) (r : HeapMemoryRegion) (h : Heap) : Type 0 where
  pub fits : Fits M r h
  pub sound : SoundHeap M (end_of r) h
