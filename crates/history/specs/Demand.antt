-- The customer's demand 3, of the public calls, at one moment of a history.
use Rattle.std.specs.Prelude.{ℕ, ◌+◌, ◌-◌, ◌*◌, ◌≤◌, ◌<◌, ◌≡◌, ◌≢◌, ◌↔◌, ◌⊎◌, [], ◌∷◌, T, get_or, Some}
use Rattle.common.specs.Kit.{Memᴰ}
use Rattle.common.specs.Numbers.{Once, count}
use Rattle.buddy.specs.Runs.{cell, first, Head, buddy}
use Rattle.buddy.specs.Heap.{file}
use Rattle.buddy.specs.Request.{Request, on, to_free, to_get, to_put, Asks}
use Rattle.buddy.specs.History.{still_out, gets, puts, granted_as}
use Rattle.buddy.specs.Demand.{pages_in, InOne}
use Rattle.pages.specs.Info.{file_info}
use Rattle.pages.specs.Said.{said}
use Rattle.region.specs.Layout.{end_of, managed}
use Rattle.refine.specs.Image.{heap_of}
use Rattle.sound_calls.specs.Answer.{ok, no}
use Rattle.sound_calls.specs.Promise.{max_count}
use Rattle.sound_calls.specs.declared.Answer.{Answer}
use Rattle.heap.specs.Promise.{promise}
use Rattle.history.specs.Calls.{Call, called, Moment}

module _ (m : Moment) where
  -- the address of page p
  abbrev pub address_of : ℕ → ℕ
  address_of p = m.region.start_virt.0 + 4096 * p

  -- what a request answers
  abbrev pub answered : Request → Answer
  answered x = (promise m.region m.words x).answer

  abbrev pub Managed : ℕ → Type 0
  Managed p = T (managed m.region m.words p)

  -- the block of order o at page p stands on its list, as the record and the words have it
  abbrev pub Free : ℕ → ℕ → Type 0
  Free o p = (o ≤ 5) × Memᴰ p ((heap_of m.region m.words).list o)

  -- it is still out by the log: granted, and not returned (H3)
  abbrev pub Out : ℕ → ℕ → Type 0
  Out o p = Memᴰ (address_of p) (still_out m.log o)

  abbrev pub Stands : ℕ → ℕ → Type 0
  Stands o p = Free o p ⊎ Out o p

  -- the aligned run c of 2^o pages is managed and clear of blocks still out
  abbrev pub Clear : ℕ → ℕ → Type 0
  Clear o c = (q : ℕ) → cell o q ≡ c → Managed q × ((j s : ℕ) → Out j s → cell j q ≢ cell j s)

  -- page p is a file page: its word has a count, 1 or more, which is 1 plus gets less puts since its grant, and get and put answer by it (H8)
  pub record FileCount (p : ℕ) : Type 0 where
    pub count : ℕ
    pub some : 1 ≤ count
    pub word : said m.words p ≡ Some (file_info count)
    pub since : count + puts m.log (address_of p) ≡ 1 + gets m.log (address_of p)
    pub get : count < max_count → answered (on to_get (address_of p)) ≡ ok ((count + 1) ∷ [])
    pub full : max_count ≤ count → answered (on to_get (address_of p)) ≡ no 11 (address_of p ∷ [])
    pub put : answered (on to_put (address_of p)) ≡ ok ((count - 1) ∷ [])

  pub record Demand3 : Type 0 where
    -- "the blocks still out by that record and the free blocks tile the managed pages, each page once" (H4)
    pub tile : (p : ℕ) → Managed p → InOne Free Out p
    pub once : (o : ℕ) → Once (still_out m.log o)
    pub aligned : (o p : ℕ) → Stands o p → Head o p
    pub inside : (o p q : ℕ) → Stands o p → cell o q ≡ cell o p → Managed q
    pub placed : (o a : ℕ) → Memᴰ a (still_out m.log o) → (p : ℕ) × (a ≡ address_of p)
    -- "the block totals add up to the managed pages, each count times its block's size" (H5)
    pub totals : pages_in (λ o. get_or m.region.nr_pages o 0) 6 ≡ count (managed m.region m.words) (end_of m.region)
    -- "no two free buddies below order 5 stand side by side" (H6)
    pub apart : (o c : ℕ) → o < 5 → Free o (first o c) → Free o (first o (buddy c)) → ⊥
    -- "a request for a valid order is refused for want of memory exactly when no aligned run of that many managed pages is clear of blocks still out"
    -- (H7): for a block, a file page or a slab page
    pub want : (x : Request) (o : ℕ) → Asks x o → o ≤ 5 → (answered x ≡ no 6 []) ↔ ((c : ℕ) → Clear o c → ⊥)
    -- no call answers 4 (H9)
    pub sound : (c : Call) → (called m.region m.words c).answer.number ≢ 4
    -- "a file page's count is 1 plus gets less puts since its grant" (H8)
    pub files : (p : ℕ) → Out 0 p → granted_as m.log (address_of p) ≡ file 1 → FileCount p

  -- the 2^o pages at address b are managed, and clear of blocks still out
  pub record Fresh (o b : ℕ) : Type 0 where
    pub first : ℕ
    pub at : b ≡ address_of first
    pub head : Head o first
    pub clear : Clear o (cell o first)

  -- what is granted was clear: an address is answered for no page that is still out (H11)
  abbrev pub Grants : Type 0
  Grants = (x : Request) (o b : ℕ) → Asks x o → answered x ≡ ok (b ∷ []) → Fresh o b

  -- a block is still out at address a
  abbrev pub OutAt : ℕ → Type 0
  OutAt a = (o : ℕ) × Memᴰ a (still_out m.log o)

  -- a file page is, and was put as often as it was got
  abbrev pub LastAt : ℕ → Type 0
  LastAt a = Memᴰ a (still_out m.log 0) × (granted_as m.log a ≡ file 1) × (puts m.log a ≡ gets m.log a)

  -- what a return is: a free succeeds exactly at the address of a block still out, and a put answers 0 exactly on the last reference (H10)
  pub record Returns : Type 0 where
    pub frees : (a : ℕ) → (answered (on to_free a) ≡ ok []) ↔ OutAt a
    pub last : (a : ℕ) → (answered (on to_put a) ≡ ok (0 ∷ [])) ↔ LastAt a
