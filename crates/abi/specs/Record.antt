-- The record as 21 numbers: start, page count and boot pages, then blocks, free blocks and list heads, each by order.
use Rattle.std.specs.Prelude.{ℕ, ◌+◌, List, ◌∷◌, ◌++◌, get_or, take, drop}
use Rattle.region.specs.declared.HeapMemoryRegion.{HeapMemoryRegion}

abbrev pub packed : HeapMemoryRegion → List ℕ
packed r = r.start_virt.0 ∷ r.page_count ∷ r.allocated ∷ (r.nr_pages ++ (r.free_pages ++ r.next_page))

-- the six numbers from place k on, and six numbers written there
unfoldable pub six_from : List ℕ → ℕ → List ℕ
six_from xs k = take 6 (drop k xs)

unfoldable pub with_six : List ℕ → ℕ → List ℕ → List ℕ
with_six xs k ns = take k xs ++ (ns ++ drop (k + 6) xs)

unfoldable pub unpacked : List ℕ → HeapMemoryRegion
unpacked xs = record {
  start_virt = record { 0 = get_or xs 0 0 };
  page_count = get_or xs 1 0;
  allocated = get_or xs 2 0;
  nr_pages = six_from xs 3;
  free_pages = six_from xs 9;
  next_page = six_from xs 15;
}
