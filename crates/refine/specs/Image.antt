-- The heap that record and words show, and the record and words that show a heap. All three are total and compute.
use Rattle.std.specs.Prelude.{ℕ, zero, suc, ◌+◌, ◌^◌, ◌≤◌, ◌<◌, ◌≡◌, cond, List, [], ◌∷◌, eqb, ltb, length, get_or, T, Some}
use Rattle.words.specs.Word.{no_page, mem_of}
use Rattle.words.specs.declared.word.PageInfo.{PageInfo}
use Rattle.buddy.specs.Runs.{start}
use Rattle.buddy.specs.Heap.{Kind, free, used, slab, file, Tag, tag, Heap, SoundHeap}
use Rattle.pages.specs.Info.{free_info, allocated_info, slab_info, compound_info, file_info, reserved_info}
use Rattle.pages.specs.Said.{said, next_in}
use Rattle.pages.specs.Meaning.{order_said, kind_said}
use Rattle.region.specs.Layout.{end_of, managed, Limits}
use Rattle.region.specs.Pages.{AllSay}
use Rattle.region.specs.State.{State, st}
use Rattle.region.specs.declared.HeapMemoryRegion.{HeapMemoryRegion}

-- the head of a list, as the record writes it
abbrev pub head_or : List ℕ → ℕ
head_or [] = no_page
head_or (x ∷ xs) = x

-- the page after p on a list
unfoldable pub next_after : ℕ → List ℕ → ℕ
next_after p [] = no_page
next_after p (x ∷ xs) = cond (eqb x p) (head_or xs) (next_after p xs)

-- what the head of a block says
abbrev pub head_info : Kind → ℕ → ℕ → PageInfo
head_info free o next = free_info o next
head_info used o next = allocated_info o
head_info (slab i) o next = slab_info i
head_info (file n) o next = file_info n

-- what a managed page says: the head of a block by its kind, any other page Compound of the block's order
unfoldable pub entry : Heap → ℕ → PageInfo
entry h p = cond (eqb (start (h.at p).order p) p)
    (head_info (h.at p).kind (h.at p).order (next_after p (h.list (h.at p).order)))
    (compound_info (h.at p).order)

-- what page p says, in a region with metadata pages from e on. A page below it that is not managed has the clean tag (0, used) and so shows
-- Allocated 0
unfoldable pub shown : ℕ → Heap → ℕ → PageInfo
shown e h p = cond (ltb p e) (entry h p) reserved_info

-- the values of f at the n numbers from a on
unfoldable pub table : (ℕ → ℕ) → ℕ → ℕ → List ℕ
table f a zero = []
table f a (suc n) = f a ∷ table f (a + 1) n

-- the record and the words that show a heap, in the place of region r
unfoldable pub region_of : HeapMemoryRegion → Heap → HeapMemoryRegion
region_of r h = record {
  start_virt = r.start_virt;
  page_count = r.page_count;
  allocated = r.allocated;
  nr_pages = table h.blocks 0 6;
  free_pages = table (λ o. length (h.list o)) 0 6;
  next_page = table (λ o. head_or (h.list o)) 0 6;
}

unfoldable pub words_of : HeapMemoryRegion → Heap → List ℕ
words_of r h = table (λ p. mem_of (shown (end_of r) h p)) 0 r.page_count

abbrev pub image : HeapMemoryRegion → Heap → State
image r h = st (region_of r h) (words_of r h)

-- the tag that the words tell of page p: the order by its own word, the kind by the word at its block's start
unfoldable pub tag_said : List ℕ → ℕ → Tag
tag_said ws p = tag (order_said (said ws p)) (kind_said (said ws (start (order_said (said ws p)) p)))

-- the n pages from p on by the next fields
unfoldable pub walk : List ℕ → ℕ → ℕ → List ℕ
walk ws zero p = []
walk ws (suc n) p = p ∷ walk ws n (next_in (said ws p))

-- the heap that record and words show: tags of managed pages and lists by the words, counts by the record
unfoldable pub heap_of : HeapMemoryRegion → List ℕ → Heap
heap_of r ws = record {
  at = λ p. cond (managed r ws p) (tag_said ws p) (tag 0 used);
  list = λ o. cond (ltb o 6) (walk ws (get_or r.free_pages o 0) (get_or r.next_page o 0)) [];
  blocks = λ o. get_or r.nr_pages o 0;
}

-- record and words show the heap h: its managed pages, between boot and metadata pages, and its counts and lists
pub record Shows (r : HeapMemoryRegion) (ws : List ℕ) (h : Heap) : Type 0 where
  pub limits : Limits r.start_virt.0 r.page_count r.allocated (length ws)
  pub boot : AllSay ws 0 r.allocated (allocated_info 0)
  pub metadata : AllSay ws (end_of r) r.page_count reserved_info
  pub words : (p : ℕ) → T (managed r ws p) → said ws p ≡ Some (entry h p)
  pub totals : (o : ℕ) → o ≤ 5 → get_or r.nr_pages o 0 ≡ h.blocks o
  pub frees : (o : ℕ) → o ≤ 5 → get_or r.free_pages o 0 ≡ length (h.list o)
  pub heads : (o : ℕ) → o ≤ 5 → get_or r.next_page o 0 ≡ head_or (h.list o)

-- the sound heap of a region
abbrev pub SoundIn : HeapMemoryRegion → List ℕ → Heap → Type 0
SoundIn r ws h = SoundHeap (managed r ws) (end_of r) h

-- what the types of the code give: arrays of six, words of 64 bits
pub record Typed (r : HeapMemoryRegion) (ws : List ℕ) : Type 0 where
  pub nr : length r.nr_pages ≡ 6
  pub frees : length r.free_pages ≡ 6
  pub heads : length r.next_page ≡ 6
  pub bits : (p : ℕ) → p < length ws → get_or ws p 0 < 2 ^ 64
