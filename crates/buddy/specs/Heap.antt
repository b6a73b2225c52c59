-- The heap, and when it is sound. The managed pages are a set M, given by a test, and not an interval: pages may be added later.
-- Each page carries the tag of the block that covers it, so a block is a run whose pages have one tag of that order.
use Rattle.std.specs.Prelude.{ℕ, suc, ◌≤◌, ◌<◌, ◌≡◌, Bool, true, false, ◌&&◌, List, [], T, eqb, leb}
use Rattle.common.specs.Kit.{Memᴰ}
use Rattle.common.specs.Numbers.{Once, count}
use Rattle.buddy.specs.Runs.{cell, start, Head}

-- what a block is: free, or out as an ordinary block, as a slab page with its item size, or as a file page with its count
pub data Kind : Type 0 where
  free used : Kind
  slab file : ℕ → Kind

pub record Tag : Type 0 where
  pub order : ℕ
  pub kind : Kind

abbrev pub tag : ℕ → Kind → Tag
tag o k = record { order = o; kind = k }

-- the tag of each page, the six lists of free blocks by their first pages, and the number of blocks of each order
pub record Heap : Type 0 where
  pub at : ℕ → Tag
  pub list : ℕ → List ℕ
  pub blocks : ℕ → ℕ

abbrev pub is_free : Kind → Bool
is_free free = true
is_free used = false
is_free (slab i) = false
is_free (file n) = false

-- an item size that a slab page may have (W16)
abbrev pub good_item : ℕ → Bool
good_item i = leb 1 i && leb i 65535

-- what a block of order o may be: free or out; at order 0 also a file page with a count, or a slab page with a good item (S9)
abbrev pub Fits : Kind → ℕ → Type 0
Fits free o = o ≤ 5
Fits used o = o ≤ 5
Fits (slab i) o = (o ≡ 0) × (good_item i ≡ true)
Fits (file n) o = (o ≡ 0) × (1 ≤ n)

module _ (M : ℕ → Bool) (at : ℕ → Tag) where
  -- page p lies in a block: the run of its tag's order around it is managed, and every page of the run has the same tag
  pub record Block (p : ℕ) : Type 0 where
    pub fits : Fits (at p).kind (at p).order
    pub inside : (q : ℕ) → cell (at p).order q ≡ cell (at p).order p → T (M q)
    pub same : (q : ℕ) → cell (at p).order q ≡ cell (at p).order p → at q ≡ at p

  -- "Managed pages are tiled by blocks" (S9)
  abbrev pub Tiled : Type 0
  Tiled = (p : ℕ) → T (M p) → Block p

  -- page p heads a free block of order o
  pub record FreeHead (o p : ℕ) : Type 0 where
    pub managed : T (M p)
    pub is : at p ≡ tag o free
    pub head : Head o p

  -- "List o holds each free block of order o once" (S10)
  pub record Listed (o : ℕ) (l : List ℕ) : Type 0 where
    pub sound : (p : ℕ) → Memᴰ p l → FreeHead o p
    pub full : (p : ℕ) → FreeHead o p → Memᴰ p l
    pub once : Once l

  -- "Below order 5 no two free blocks of one order are buddies" (S11): free pages of two halves of one run are in one half
  abbrev pub NoBuddies : Type 0
  NoBuddies = (o p q : ℕ) → o < 5 → T (M p) → T (M q) → at p ≡ tag o free → at q ≡ tag o free → cell (suc o) p ≡ cell (suc o) q → cell o p ≡ cell o q

  -- whether page p heads a block of order o
  abbrev pub heads : ℕ → ℕ → Bool
  heads o p = M p && (eqb (at p).order o && eqb (start o p) p)

-- A heap over the managed pages M, all below n, that is sound but for buddies: what every single step keeps.
-- "Both count arrays equal the counts of blocks and of free blocks" (S12, S13); the free blocks are counted by the lists.
pub record Core (M : ℕ → Bool) (n : ℕ) (h : Heap) : Type 0 where
  pub tiled : Tiled M h.at
  pub listed : (o : ℕ) → o ≤ 5 → Listed M h.at o (h.list o)
  pub counted : (o : ℕ) → o ≤ 5 → h.blocks o ≡ count (heads M h.at o) n

-- a sound heap
pub record SoundHeap (M : ℕ → Bool) (n : ℕ) (h : Heap) : Type 0 where
  pub core : Core M n h
  pub apart : NoBuddies M h.at

-- nothing is said of pages that are not managed, nor of orders above 5: such a heap is fixed by what it shows
pub record Clean (M : ℕ → Bool) (h : Heap) : Type 0 where
  pub tags : (p : ℕ) → (T (M p) → ⊥) → h.at p ≡ tag 0 used
  pub lists : (o : ℕ) → 5 < o → h.list o ≡ []
  pub counts : (o : ℕ) → 5 < o → h.blocks o ≡ 0
