-- The pages of a region and their addresses: `pages` pages of 4,096 bytes from the address `start` on (W10, W11).
use Rattle.std.specs.Prelude.{ℕ, ◌+◌, ◌-◌, ◌*◌, ◌/◌, ◌%◌, ◌^◌, cond, eqb, leb, ltb, Option, Some, None}
use Rattle.words.specs.declared.place.PageAt.{PageAt}
use Rattle.words.specs.declared.place.PageAt.TheVariants.{Start, Within}
use Rattle.words.specs.declared.place.VirtAddr.{VirtAddr}

-- where address a lies: below the start or at or above the end, at the start of a page, or within one
unfoldable pub page_at : ℕ → ℕ → ℕ → PageAt
page_at start pages a =
    cond (ltb a start) PageAt.Outside
    (cond (leb pages ((a - start) / 4096)) PageAt.Outside
    (cond (eqb ((a - start) % 4096) 0) (Start (record { 0 = (a - start) / 4096 }))
    (Within (record { 0 = (a - start) / 4096 }))))

-- the address of page p, if the region has it and 64 bits can write it
unfoldable pub address_at : ℕ → ℕ → ℕ → Option VirtAddr
address_at start pages p =
    cond (leb pages p) None
    (cond (ltb (start + p * 4096) (2 ^ 64)) (Some (record { 0 = start + p * 4096 })) None)
