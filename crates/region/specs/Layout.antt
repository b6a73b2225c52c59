-- The numbers of a region: of its record (W12 to W14), and the lines of soundness on them (S1 to S6).
use Rattle.std.specs.Prelude.{ℕ, ◌+◌, ◌-◌, ◌*◌, ◌/◌, ◌%◌, ◌^◌, ◌≤◌, ◌≡◌, Bool, List, replicate}
use Rattle.words.specs.Word.{no_page}
use Rattle.words.specs.declared.place.VirtAddr.{VirtAddr}
use Rattle.buddy.specs.Rules.{span}
use Rattle.region.specs.declared.HeapMemoryRegion.{HeapMemoryRegion}

-- "1 to 4,096 pages" (S2): the number stands here, and in the code's constant, which `pages_good` is proved to compare with it. Proofs use only that
-- it is at most 2^20 (`pages-small`)
unfoldable pub max_pages : ℕ
max_pages = 4096

-- "Metadata pages are page_count times 8, divided by 4,096 and rounded up" (W13)
abbrev pub meta_pages : ℕ → ℕ
meta_pages n = (n * 8 + 4095) / 4096

-- "alloc_pages is page_count less these" (W13)
abbrev pub alloc_pages : ℕ → ℕ
alloc_pages n = n - meta_pages n

-- the first page behind the managed pages
abbrev pub end_of : HeapMemoryRegion → ℕ
end_of r = alloc_pages r.page_count

-- "Managed pages run from allocated up to but not including alloc_pages" (W14): the managed pages of a region, as a set, by its record and its words
abbrev pub managed : HeapMemoryRegion → List ℕ → ℕ → Bool
managed r ws = span r.allocated (end_of r)

-- the numbers of a region with n pages and a boot pages, lent this many words (S1 to S6)
pub record Limits (start n a words : ℕ) : Type 0 where
  pub some : 1 ≤ n
  pub most : n ≤ max_pages
  pub long : words ≡ n
  pub aligned : start % 4096 ≡ 0
  pub ends : start + 4096 * n ≤ 2 ^ 64 - 1
  pub boot : a ≤ alloc_pages n

-- a record without lists and with counts of zero; "no pages, counts 0, no lists" (R52, C70) where the numbers are 0
abbrev pub bare : VirtAddr → ℕ → ℕ → HeapMemoryRegion
bare start n a = record {
  start_virt = start;
  page_count = n;
  allocated = a;
  nr_pages = replicate 6 0;
  free_pages = replicate 6 0;
  next_page = replicate 6 no_page;
}
