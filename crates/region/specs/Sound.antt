-- When record and words are sound: rules S1 to S13 of docs/RULES.md. `Limits` has S1 to S6; then one field each.
use Rattle.std.specs.Prelude.{ℕ, ◌<◌, ◌≡◌, List, length, get_or}
use Rattle.pages.specs.Info.{allocated_info, reserved_info}
use Rattle.region.specs.Layout.{end_of, managed, Limits}
use Rattle.region.specs.Pages.{AllSay, Tiled, FreeList, NoBuddies, blocks, frees}
use Rattle.region.specs.declared.HeapMemoryRegion.{HeapMemoryRegion}

pub record Sound (r : HeapMemoryRegion) (ws : List ℕ) : Type 0 where
  -- the numbers of the region (S1 to S6)
  pub limits : Limits r.start_virt.0 r.page_count r.allocated (length ws)
  -- "Boot words are Allocated order 0. Metadata words are Reserved" (S7, S8)
  pub boot : AllSay ws 0 r.allocated (allocated_info 0)
  pub metadata : AllSay ws (end_of r) r.page_count reserved_info
  -- "Managed pages are tiled by blocks" (S9)
  pub tiled : Tiled ws (managed r ws)
  -- "List o holds each free block of order o once, linked by the next fields, ending in none" (S10)
  pub lists : (o : ℕ) → o < 6 → FreeList ws (managed r ws) o (get_or r.next_page o 0)
  -- "Below order 5 no two free blocks of one order are buddies" (S11)
  pub buddies : NoBuddies ws (managed r ws)
  -- "Both count arrays equal the counts of blocks and of free blocks" (S12, S13)
  pub totals : (o : ℕ) → o < 6 → get_or r.nr_pages o 0 ≡ blocks ws (managed r ws) (end_of r) o
  pub free : (o : ℕ) → o < 6 → get_or r.free_pages o 0 ≡ frees ws (managed r ws) (end_of r) o
