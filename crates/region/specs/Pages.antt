-- A set M of pages, with a word each: blocks, the tiling, free blocks, lists, buddies and counts, by what the words say.
use Rattle.std.specs.Prelude.{ℕ, ◌+◌, ◌-◌, ◌%◌, ◌^◌, ◌≤◌, ◌<◌, ◌≡◌, Bool, cond, ◌&&◌, List, [], ◌∷◌, T, eqb, Some}
use Rattle.common.specs.Numbers.{count}
use Rattle.words.specs.Word.{no_page}
use Rattle.words.specs.declared.word.PageInfo.{PageInfo}
use Rattle.pages.specs.Info.{compound_info}
use Rattle.pages.specs.Said.{said, next_in}
use Rattle.pages.specs.Meaning.{head_order, free_order}

-- every page from a up to e says i
pub record AllSay (ws : List ℕ) (a e : ℕ) (i : PageInfo) : Type 0 where
  pub each : (p : ℕ) → a ≤ p → p < e → said ws p ≡ Some i

-- "A block of order o has 2^o pages and starts at a multiple of 2^o. Its head is ..; its other words are Compound of order o" (S9)
pub record Block (ws : List ℕ) (M : ℕ → Bool) (p o : ℕ) : Type 0 where
  pub small : o < 6
  pub inside : (q : ℕ) → p ≤ q → q < p + 2 ^ o → T (M q)
  pub aligned : p % 2 ^ o ≡ 0
  pub head : head_order (said ws p) ≡ o
  pub rest : AllSay ws (p + 1) (p + 2 ^ o) (compound_info o)

-- page q lies in a block
pub record InBlock (ws : List ℕ) (M : ℕ → Bool) (q : ℕ) : Type 0 where
  pub page : ℕ
  pub order : ℕ
  pub block : Block ws M page order
  pub low : page ≤ q
  pub high : q < page + 2 ^ order

-- "Managed pages are tiled by blocks" (S9): each lies in one. (In no other: a word of a block past its head is Compound and heads nothing)
pub record Tiled (ws : List ℕ) (M : ℕ → Bool) : Type 0 where
  pub each : (q : ℕ) → T (M q) → InBlock ws M q

-- page p heads a free block of order o
pub record FreeBlock (ws : List ℕ) (M : ℕ → Bool) (o p : ℕ) : Type 0 where
  pub managed : T (M p)
  pub is : free_order (said ws p) ≡ o

-- the pages l are linked by the next fields from h on, each is Free of order o, and the last has none after it
abbrev pub Linked : List ℕ → (ℕ → Bool) → ℕ → ℕ → List ℕ → Type 0
Linked ws M o h [] = h ≡ no_page
Linked ws M o h (p ∷ l) = (h ≡ p) × FreeBlock ws M o p × Linked ws M o (next_in (said ws p)) l

-- how often page p stands in a list
abbrev pub occurs : ℕ → List ℕ → ℕ
occurs p [] = 0
occurs p (x ∷ l) = cond (eqb x p) 1 0 + occurs p l

-- "List o holds each free block of order o once, linked by the next fields, ending in none" (S10); h is its head in the record
pub record FreeList (ws : List ℕ) (M : ℕ → Bool) (o h : ℕ) : Type 0 where
  pub list : List ℕ
  pub linked : Linked ws M o h list
  pub once : (p : ℕ) → FreeBlock ws M o p → occurs p list ≡ 1

-- "The buddy of page p at order o is p plus 2^o if p is a multiple of 2^(o+1), else p minus 2^o" (S11)
unfoldable pub buddy_of : ℕ → ℕ → ℕ
buddy_of o p = cond (eqb (p % 2 ^ (o + 1)) 0) (p + 2 ^ o) (p - 2 ^ o)

-- "Below order 5 no two free blocks of one order are buddies" (S11)
pub record NoBuddies (ws : List ℕ) (M : ℕ → Bool) : Type 0 where
  pub none : (o p : ℕ) → o < 5 → FreeBlock ws M o p → FreeBlock ws M o (buddy_of o p) → ⊥

-- how many blocks of order o there are among the pages of M below n, and how many free ones: each has one head (S12, S13)
abbrev pub blocks : List ℕ → (ℕ → Bool) → ℕ → ℕ → ℕ
blocks ws M n o = count (λ p. M p && eqb (head_order (said ws p)) o) n

abbrev pub frees : List ℕ → (ℕ → Bool) → ℕ → ℕ → ℕ
frees ws M n o = count (λ p. M p && eqb (free_order (said ws p)) o) n
