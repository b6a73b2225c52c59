-- What the customer asks for at every moment of every history (demand 3), and what a return is.
use Rattle.std.specs.Prelude.{ℕ, zero, suc, ◌+◌, ◌*◌, ◌^◌, ◌≤◌, ◌<◌, ◌≡◌, ◌≢◌, ◌↔◌, ◌⊎◌, Bool, T}
use Rattle.common.specs.Kit.{Memᴰ}
use Rattle.common.specs.Numbers.{Once, count}
use Rattle.buddy.specs.Runs.{cell, first, Head, buddy}
use Rattle.buddy.specs.Heap.{Kind, free, used, slab, file}
use Rattle.buddy.specs.Rules.{refused, allocate}
use Rattle.buddy.specs.Request.{on, to_free, to_put}
use Rattle.buddy.specs.History.{Moment, still_out, gets, puts, granted_as, done, counted, call}

-- the pages of f o blocks of each order o below k
unfoldable pub pages_in : (ℕ → ℕ) → ℕ → ℕ
pages_in f zero = 0
pages_in f (suc k) = pages_in f k + f k * 2 ^ k

-- page p lies in one block, free or out but not both, and in no other; blocks go by order and first page
pub record InOne (Free Out : ℕ → ℕ → Type 0) (p : ℕ) : Type 0 where
  pub order : ℕ
  pub head : ℕ
  pub stands : Free order head ⊎ Out order head
  pub holds : cell order p ≡ cell order head
  pub only : (o s : ℕ) → Free o s ⊎ Out o s → cell o p ≡ cell o s → (o ≡ order) × (s ≡ head)
  pub not-both : Free order head → Out order head → ⊥

module _ (M : ℕ → Bool) (m : Moment) where
  -- the block of order o with first page s is free, on its list
  abbrev pub Free : ℕ → ℕ → Type 0
  Free o s = (o ≤ 5) × Memᴰ s (m.heap.list o)

  -- it is still out by the log
  abbrev pub Out : ℕ → ℕ → Type 0
  Out o s = Memᴰ s (still_out m.log o)

  abbrev pub Stands : ℕ → ℕ → Type 0
  Stands o s = Free o s ⊎ Out o s

  -- the aligned run c of order o is managed and clear of blocks still out
  abbrev pub Clear : ℕ → ℕ → Type 0
  Clear o c = (q : ℕ) → cell o q ≡ c → T (M q) × ((j s : ℕ) → Out j s → cell j q ≢ cell j s)

  -- what is out is of the kind that it was granted as; a file page's count n is 1 plus gets less puts since its grant
  abbrev pub StillAs : Kind → ℕ → Kind → Type 0
  StillAs free p now = ⊥
  StillAs used p now = now ≡ used
  StillAs (slab i) p now = now ≡ slab i
  StillAs (file a) p now = (n : ℕ) × (now ≡ file n) × (n + puts m.log p ≡ 1 + gets m.log p)

  -- demand 3, at one moment; all managed pages lie below n
  pub record Demand3 (n : ℕ) : Type 0 where
    -- "the blocks still out by that record and the free blocks tile the managed pages, each page once" (H4)
    pub tile : (p : ℕ) → T (M p) → InOne Free Out p
    pub once : (o : ℕ) → Once (still_out m.log o)
    pub aligned : (o s : ℕ) → Stands o s → Head o s
    pub inside : (o s q : ℕ) → Stands o s → cell o q ≡ cell o s → T (M q)
    -- "the block totals add up to the managed pages, each count times its block's size" (H5)
    pub totals : pages_in m.heap.blocks 6 ≡ count M n
    -- "no two free buddies below order 5 stand side by side" (H6)
    pub apart : (o c : ℕ) → o < 5 → Free o (first o c) → Free o (first o (buddy c)) → ⊥
    -- H7: "a request for a valid order is refused for want of memory exactly when no aligned run of that many managed pages is clear of blocks still
    -- out"
    pub want : (o : ℕ) → o ≤ 5 → (allocate m.heap o ≡ refused) ↔ ((c : ℕ) → Clear o c → ⊥)
    -- "a file page's count is 1 plus gets less puts since its grant" (H8)
    pub kinds : (o s : ℕ) → Out o s → StillAs (granted_as m.log s) s (m.heap.at s).kind

  -- what a return is: a free succeeds exactly on a block that is out by the log, and a put answers 0 exactly on one that is out as a file page and
  -- was put as often as it was got (H10)
  pub record Returns : Type 0 where
    pub frees : (p : ℕ) → ((call M m.heap (on to_free p)).answer ≡ done) ↔ ((o : ℕ) × Out o p)
    pub last : (p : ℕ) → ((call M m.heap (on to_put p)).answer ≡ counted 0)
        ↔ (Out 0 p × (granted_as m.log p ≡ file 1) × (puts m.log p ≡ gets m.log p))
