-- The executable form of soundness: a test for each of S1 to S13, of any record and any words. The managed pages are a set M, as they are in `Sound`.
-- It is total and computes; what a `let` holds is computed only where it is asked for. That it decides `Sound` is the law `sound-decides`.
use Rattle.std.specs.Prelude.{ℕ, zero, suc, ◌+◌, ◌-◌, ◌*◌, ◌%◌, ◌^◌, Bool, true, cond, not, ◌&&◌, ◌||◌, List, [], ◌∷◌, eqb, leb, ltb, length, get_or}
use Rattle.words.specs.Word.{no_page, mem_of}
use Rattle.words.specs.declared.word.PageInfo.{PageInfo}
use Rattle.pages.specs.Info.{allocated_info, compound_info, reserved_info}
use Rattle.pages.specs.Said.{said, next_in}
use Rattle.pages.specs.Meaning.{head_order, free_order}
use Rattle.region.specs.Layout.{max_pages, end_of, managed}
use Rattle.region.specs.Pages.{blocks, frees}
use Rattle.region.specs.declared.HeapMemoryRegion.{HeapMemoryRegion}

-- a test passes at each of the n numbers from a on
unfoldable pub all : (ℕ → Bool) → ℕ → ℕ → Bool
all f a zero = true
all f a (suc n) = let rest = all f (a + 1) n in f a && rest

-- every page from a up to e has the word of i
unfoldable pub all_say : List ℕ → ℕ → ℕ → PageInfo → Bool
all_say ws a e i = all (λ p. eqb (get_or ws p 0) (mem_of i)) a (e - a)

-- page p starts a block of order o, all of it in M; that p heads that order is not asked
unfoldable pub block_at : List ℕ → (ℕ → Bool) → ℕ → ℕ → Bool
block_at ws M p o = ltb o 6 && (eqb (p % 2 ^ o) 0 && (all M p (2 ^ o) && all_say ws (p + 1) (p + 2 ^ o) (compound_info o)))

-- the pages of M from p up to e are tiled, as at most n steps show: from block to block, and over a page that is not in M
unfoldable pub tiles : List ℕ → (ℕ → Bool) → ℕ → ℕ → ℕ → Bool
tiles ws M e zero p = leb e p
tiles ws M e (suc n) p =
    let o = head_order (said ws p) in
    let rest = tiles ws M e n (p + 2 ^ o) in
    let over = tiles ws M e n (p + 1) in
    leb e p || cond (M p) (block_at ws M p o && rest) over

-- page p heads a free block of order o
unfoldable pub is_free : List ℕ → (ℕ → Bool) → ℕ → ℕ → Bool
is_free ws M o p = M p && eqb (free_order (said ws p)) o

-- the n pages from h on by the next fields head free blocks of order o, and the last has none after it
unfoldable pub chain : List ℕ → (ℕ → Bool) → ℕ → ℕ → ℕ → Bool
chain ws M o zero h = eqb h no_page
chain ws M o (suc n) h = let rest = chain ws M o n (next_in (said ws h)) in is_free ws M o h && rest

-- each of the six lists, from its head on, has as many free blocks of its order as n says
abbrev pub chains : List ℕ → (ℕ → Bool) → (ℕ → ℕ) → List ℕ → Bool
chains ws M n heads = all (λ o. chain ws M o (n o) (get_or heads o 0)) 0 6

-- page p heads the lower one of two free buddies of order o
unfoldable pub lower_half : List ℕ → (ℕ → Bool) → ℕ → ℕ → Bool
lower_half ws M o p = is_free ws M o p && (ltb o 5 && (eqb (p % 2 ^ (o + 1)) 0 && is_free ws M o (p + 2 ^ o)))

-- no page below e heads the lower one of two free buddies
abbrev pub lonely : List ℕ → (ℕ → Bool) → ℕ → Bool
lonely ws M e = all (λ p. not (lower_half ws M (free_order (said ws p)) p)) 0 e

-- the six counts are those that n says
abbrev pub counts : List ℕ → (ℕ → ℕ) → Bool
counts ns n = all (λ o. eqb (get_or ns o 0) (n o)) 0 6

-- the lines of soundness: S1 to S13 of docs/RULES.md, in their order
pub data Line : Type 0 where
  some most long aligned ends fits boot metadata tiled lists buddies totals free : Line

-- record and words keep to a line
unfoldable pub keeps : HeapMemoryRegion → List ℕ → Line → Bool
keeps r ws some = leb 1 r.page_count
keeps r ws most = leb r.page_count max_pages
keeps r ws long = eqb (length ws) r.page_count
keeps r ws aligned = eqb (r.start_virt.0 % 4096) 0
keeps r ws ends = leb (r.start_virt.0 + 4096 * r.page_count) (2 ^ 64 - 1)
keeps r ws fits = leb r.allocated (end_of r)
keeps r ws boot = all_say ws 0 r.allocated (allocated_info 0)
keeps r ws metadata = all_say ws (end_of r) r.page_count reserved_info
keeps r ws tiled = tiles ws (managed r ws) (end_of r) (end_of r) 0
keeps r ws lists = chains ws (managed r ws) (frees ws (managed r ws) (end_of r)) r.next_page
keeps r ws buddies = lonely ws (managed r ws) (end_of r)
keeps r ws totals = counts r.nr_pages (blocks ws (managed r ws) (end_of r))
keeps r ws free = counts r.free_pages (frees ws (managed r ws) (end_of r))

-- the lines on the record's numbers, those on what words say, and those on lists and counts
abbrev pub numbers : List Line
numbers = some ∷ most ∷ long ∷ aligned ∷ ends ∷ fits ∷ []

abbrev pub marks : List Line
marks = boot ∷ metadata ∷ tiled ∷ []

abbrev pub stocks : List Line
stocks = lists ∷ buddies ∷ totals ∷ free ∷ []

-- a test passes on every line of a list
abbrev pub every : (Line → Bool) → List Line → Bool
every f [] = true
every f (x ∷ xs) = let rest = every f xs in f x && rest

-- record and words keep to every line
unfoldable pub sound_b : HeapMemoryRegion → List ℕ → Bool
sound_b r ws = every (keeps r ws) numbers && (every (keeps r ws) marks && every (keeps r ws) stocks)
