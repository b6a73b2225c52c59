-- What the walk from block to block asks at each block, what it answers, and which lines that decides.
use Rattle.std.specs.Prelude.{ℕ, ◌+◌, ◌%◌, ◌^◌, ◌<◌, ◌≡◌, Bool, cond, not, ◌&&◌, List, [], ◌∷◌, eqb, ltb, get_or, set, is_some, IfSome, Option, Some, None}
use Rattle.words.specs.Word.{no_page}
use Rattle.words.specs.declared.word.PageInfo.{PageInfo}
use Rattle.buddy.specs.Heap.{is_free as is_free_kind}
use Rattle.pages.specs.Said.{said, next_in}
use Rattle.pages.specs.Meaning.{means, if_head, good_kind}
use Rattle.region.specs.State.{room}
use Rattle.audit.specs.Check.{tiles, is_free, chain, lonely, Line, boot, metadata, tiled, lists, buddies, totals, free}
use Rattle.audit.specs.Counts.{one_more, Tallies}
use Rattle.audit.specs.declared.survey.Findings.{Findings}

-- the order of the block that a page heads, and of the free block, if it heads one: `head_order` and `free_order`, where these say no order
abbrev pub headed : Option PageInfo → Option ℕ
headed d = if_head (means d) (λ k o. cond (good_kind k) (Some o) None) None

abbrev pub freed : Option PageInfo → Option ℕ
freed d = if_head (means d) (λ k o. cond (is_free_kind k) (Some o) None) None

-- a free block of order o at page p, and one of order b that ends there, are buddies: p is no multiple of the size of both together
unfoldable pub upper_half : ℕ → ℕ → ℕ → Bool
upper_half b o p = ltb b 5 && (eqb o b && not (eqb (p % 2 ^ (b + 1)) 0))

-- the page after p on list o, and e, which is on no list, if p heads no free block of order o
unfoldable pub page_after : List ℕ → (ℕ → Bool) → ℕ → ℕ → ℕ → ℕ
page_after ws M e o p = cond (is_free ws M o p) (next_in (said ws p)) e

-- where each list has come to, with list o a page on, if there is one
abbrev pub stepped : List ℕ → (ℕ → Bool) → ℕ → ℕ → List ℕ → List ℕ
stepped ws M e o l = set l o (page_after ws M e o (get_or l o 0))

-- what a note of a block of order o asks for, free of an order or not: places for it, and room for one more
pub record NoteOk (o : ℕ) (f : Option ℕ) (s : Findings) : Type 0 where
  pub small : o < 6
  pub few : get_or s.blocks o 0 < room
  pub free : IfSome f (λ n. (n < 6) × (get_or s.frees n 0 < room))

-- a block of order o more, free of order f: one block more, one free block more, and its list a page on. Of a block that is not free f is no
-- order: the lists by order, which have no place f, stay as they are
abbrev pub noted : List ℕ → (ℕ → Bool) → ℕ → ℕ → ℕ → Findings → Findings
noted ws M e o f s = record { blocks = one_more s.blocks o; frees = one_more s.frees f; at = stepped ws M e f s.at }

-- the pages of M, all below e, are tiled, and no two free blocks are buddies
abbrev pub settled : List ℕ → (ℕ → Bool) → ℕ → Bool
settled ws M e = tiles ws M e e 0 && lonely ws M e

-- both counts, and where each list has come to: list o, from its head on, has as many free blocks as were counted, and no more, exactly if
-- it has come to none
pub record Stocked (ws : List ℕ) (M : ℕ → Bool) (e : ℕ) (heads : List ℕ) (s : Findings) : Type 0 where
  pub tallies : Tallies ws M e s.blocks s.frees
  pub chained : (o : ℕ) → o < 6 → chain ws M o (get_or s.frees o 0) (get_or heads o 0) ≡ eqb (get_or s.at o 0) no_page

-- whether the walk finds something, and what that is
pub record Surveyed (ws : List ℕ) (M : ℕ → Bool) (e : ℕ) (heads : List ℕ) (found : Option Findings) : Type 0 where
  pub answer : is_some found ≡ settled ws M e
  pub stocked : IfSome found (Stocked ws M e heads)

-- the lines on what words say and on lists and counts, as the code takes them: those on the pages around the managed ones, and those on the
-- managed pages, which the walk decides
abbrev pub edges : List Line
edges = boot ∷ metadata ∷ []

abbrev pub inner : List Line
inner = tiled ∷ buddies ∷ totals ∷ free ∷ lists ∷ []
