-- Set-up by computation, on words that all were 7: the record that it leaves of region R and of small and odd regions, and that record and
-- words of R show what set-up leaves of the heap. These are results.
use Rattle.common.specs.Kit.{ℕ, ◌≡◌, refl, List, [], ◌∷◌, map, replicate}
use Rattle.common.specs.Numbers.{update, remove}
use Rattle.words.specs.Word.{no_page, row as word_row, decode_of, mem_of}
use Rattle.words.specs.declared.place.VirtAddr.{VirtAddr}
use Rattle.buddy.specs.Runs.{cell, first, buddy}
use Rattle.buddy.specs.Steps.{paint, push, take, merge as merge_heap, with_run, add}
use Rattle.buddy.specs.Rules.{free_at, free_block, empty, grow, grow_many, set_up_from, set_up}
use Rattle.pages.specs.Fill.{fill, mark}
use Rattle.region.specs.Layout.{bare}
use Rattle.region.specs.Pages.{buddy_of}
use Rattle.region.specs.State.{State, with_list, with_blocks, take_head, put_head, page_before, cut, pull, merge}
use Rattle.region.specs.Steps.{neighbor, joins, join, free_from}
use Rattle.refine.specs.Image.{next_after, entry, shown, table as values, region_of, words_of, image}
use Rattle.setup.specs.Steps.{blank, add_block, grow_block, grow_blocks, grow_from, grow_span, init_memory}

-- a region of so many pages and boot pages: its block counts, free counts and list heads after set-up
record Case : Type 0 where
  pages : ℕ
  boot : ℕ
  counts : List ℕ
  frees : List ℕ
  heads : List ℕ

start : VirtAddr
start = record { 0 = 1048576 }

set_to : ℕ → ℕ → State
set_to n a = init_memory start n a (replicate n 7)

found : Case → Case
found c = let s = set_to c.pages c.boot in record {
  pages = c.pages;
  boot = c.boot;
  counts = s.reg.nr_pages;
  frees = s.reg.free_pages;
  heads = s.reg.next_page;
}

-- all that is managed is free
row : ℕ → ℕ → List ℕ → List ℕ → Case
row n a counts heads = record { pages = n; boot = a; counts = counts; frees = counts; heads = heads }

none : List ℕ
none = replicate 6 no_page

table : List Case
table =
    -- R
    row 64 3 (2 ∷ 1 ∷ 2 ∷ 2 ∷ 2 ∷ 0 ∷ []) (62 ∷ 60 ∷ 56 ∷ 48 ∷ 32 ∷ no_page ∷ [])
    -- one page is a metadata page; of two one is left; all but the metadata page may be boot pages
    ∷ row 1 0 (replicate 6 0) none
    ∷ row 2 0 (1 ∷ 0 ∷ 0 ∷ 0 ∷ 0 ∷ 0 ∷ []) (0 ∷ no_page ∷ no_page ∷ no_page ∷ no_page ∷ no_page ∷ [])
    ∷ row 2 1 (replicate 6 0) none
    ∷ row 64 63 (replicate 6 0) none
    -- two metadata pages: an odd number of pages, and the customer's case of 1,024
    ∷ row 513 0 (1 ∷ 1 ∷ 1 ∷ 1 ∷ 1 ∷ 15 ∷ []) (510 ∷ 508 ∷ 504 ∷ 496 ∷ 480 ∷ 448 ∷ [])
    ∷ row 1024 0 (0 ∷ 1 ∷ 1 ∷ 1 ∷ 1 ∷ 31 ∷ []) (no_page ∷ 1020 ∷ 1016 ∷ 1008 ∷ 992 ∷ 960 ∷ [])
    -- the boot pages end inside a run: one whole run, and fringes below and above it
    ∷ row 128 40 (1 ∷ 1 ∷ 1 ∷ 2 ∷ 2 ∷ 1 ∷ []) (126 ∷ 124 ∷ 120 ∷ 112 ∷ 96 ∷ 64 ∷ [])
    ∷ []

cases : map found table ≡ table
unfolding start set_to found row none table word_row decode_of mem_of fill mark buddy_of with_list with_blocks take_head put_head page_before cut pull merge neighbor joins join free_from blank add_block grow_block grow_blocks grow_from grow_span init_memory
cases = refl

image-of-R : set_to 64 3 ≡ image (bare start 64 3) (set_up 3 63).heap
unfolding start set_to update remove word_row decode_of mem_of cell first buddy paint push take merge_heap with_run add free_at free_block empty grow grow_many set_up_from set_up fill mark buddy_of with_list with_blocks take_head put_head page_before cut pull merge neighbor joins join free_from next_after entry shown values region_of words_of blank add_block grow_block grow_blocks grow_from grow_span init_memory
image-of-R = refl
