-- A record is written in parts of six, from the end on: a part leaves what stands behind it. Read, the parts make up the list.
use Rattle.common.specs.Kit.{ℕ, ◌+◌, ◌≤◌, ◌≡◌, ◌∙◌, List, [], ◌∷◌, ◌++◌, length, set, take, drop, length-drop, drop_of_length-le, drop-cons, take_all, arith}
use mathlib.Core.List.{append-nil}
use lib.ListN.{take-append-drop}
use lib.Seq.{sets-eq, length-take-le, drop-drop, take_at, drop_at}
use Rattle.region.specs.declared.HeapMemoryRegion.{HeapMemoryRegion}
use Rattle.abi.specs.Record.{packed, unpacked, six_from, with_six}

-- what stands behind a place where six numbers were written
drop-with : (xs ns : List ℕ) (k : ℕ) → k ≤ length xs → drop k (with_six xs k ns) ≡ ns ++ drop (k + 6) xs
unfolding with_six
drop-with xs ns k in_List = drop_at (take k xs) _ k (length-take-le k xs in_List)

-- what `store` writes
pub stored : (r : HeapMemoryRegion) (xs ys zs vs : List ℕ) → length xs ≡ 21 → 9 ≤ length ys → 3 ≤ length zs → 3 ≤ length vs
    → ys ≡ with_six xs 15 r.next_page → zs ≡ with_six ys 9 r.free_pages → vs ≡ with_six zs 3 r.nr_pages
    → set (set (set vs 0 r.start_virt.0) 1 r.page_count) 2 r.allocated ≡ packed r
stored r xs ys zs vs n ly lz lv py pz pv =
    sets-eq (r.start_virt.0 ∷ r.page_count ∷ r.allocated ∷ []) vs 0 lv
    ∙ rw (pv, drop-with zs _ 3, pz, drop-with ys _ 9, py, drop-with xs _ 15 (omega arith))
    (rw (drop_of_length-le xs {i = 21} (omega arith), append-nil))

-- what `tingmudra_memory_info` writes
pub reports : (ns ys vs total free : List ℕ) → length ns ≡ 12 → ys ≡ with_six ns 6 free → vs ≡ with_six ys 0 total → vs ≡ total ++ free
unfolding with_six
reports ns ys vs total free n py pv =
    rw (pv, py, drop-with ns free 6 (omega arith), drop_of_length-le ns {i = 12} (omega arith), append-nil)

-- packing and unpacking undo each other
pub packed-unpacked : (xs : List ℕ) → length xs ≡ 21 → packed (unpacked xs) ≡ xs
unfolding unpacked six_from
packed-unpacked xs n =
    rw (take_all 6 (drop 15 xs) (rw length-drop (omega arith)), ← drop-drop 6 9 xs, take-append-drop, ← drop-drop 6 3 xs, take-append-drop)
    (rw (← drop-cons xs 2 0 (omega arith), ← drop-cons xs 1 0 (omega arith), ← drop-cons xs 0 0 (omega arith)))

pub unpacked-packed : (r : HeapMemoryRegion) → length r.nr_pages ≡ 6 → length r.free_pages ≡ 6 → length r.next_page ≡ 6
    → unpacked (packed r) ≡ r
unfolding unpacked six_from
unpacked-packed r nr frees heads =
    rw (take_at, ← drop-drop 6 6 (r.nr_pages ++ (r.free_pages ++ r.next_page)), drop_at, take_at, drop_at)
    (rw (take_all 6 r.next_page (omega arith)))

pub ruleset undone = (packed-unpacked)
