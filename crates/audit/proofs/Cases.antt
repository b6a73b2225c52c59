-- Each state of the table breaks the lines that it is said to break, and the audit answers so, by computation. These are results.
use Rattle.common.specs.Kit.{ℕ, ◌≤◌, ◌≡◌, refl, List, map, dec_lt, arith}
use Rattle.common.specs.Numbers.{count}
use Rattle.words.specs.Word.{row, decode_of, mem_of}
use Rattle.buddy.specs.Rules.{span}
use Rattle.pages.specs.Info.{allocated_info, reserved_info}
use Rattle.region.specs.Layout.{max_pages, end_of}
use Rattle.region.specs.Pages.{AllSay}
use Rattle.region.specs.State.{with_list, with_blocks}
use Rattle.region.specs.declared.HeapMemoryRegion.{HeapMemoryRegion}
use Rattle.audit.specs.Check.{all, all_say, block_at, tiles, is_free, chain, lower_half, keeps, sound_b}
use Rattle.audit.specs.Cases.{found, table}

pub cases : map found table ≡ table
unfolding row decode_of mem_of max_pages count span with_list with_blocks all all_say block_at tiles is_free chain lower_half keeps sound_b table
cases = refl

-- no state breaks `fits` alone: where boot pages reach into metadata pages, a word would have to be both
pub fits-follows :
    (r : HeapMemoryRegion) (ws : List ℕ) → 1 ≤ r.page_count → AllSay ws 0 r.allocated (allocated_info 0) →
    AllSay ws (end_of r) r.page_count reserved_info → r.allocated ≤ end_of r
fits-follows r ws some boot metadata =
    elim (dec_lt (end_of r) r.allocated) [
      | yes h ↦
          let b = boot.each (end_of r) (omega arith) h in
          let m = metadata.each (end_of r) (omega arith) (omega arith) in
          let z : ◌≡◌ {A = ℕ} 0 1 = cc in
          absurd (omega arith)
      | no h ↦ omega arith
    ]
