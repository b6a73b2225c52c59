-- A tiled heap over the pages M, and words that say what it says: each line of soundness holds of the words exactly when it holds of the heap,
-- and the tiling holds of both.
use Rattle.common.specs.Kit.{ℕ, suc, ◌+◌, ◌^◌, ◌≤◌, ◌<◌, ◌≡◌, sym, ap, ◌∙◌, ◌≢◌, by_cases, Bool, List, T, length, ℕ_discrete, arith, Some}
use Rattle.common.specs.Numbers.{count}
use Rattle.common.proofs.Counts.{count_same}
use Rattle.buddy.specs.Runs.{cell, first, start, buddy}
use Rattle.buddy.specs.Heap.{free, tag, Block, Tiled, FreeHead, Listed, NoBuddies, heads, Heap}
use Rattle.buddy.proofs.RunLaws.{cell-suc, cell-first, start-le, lt-end, cell-between, head-start, buddy-half, buddy-not, buddy-is}
use Rattle.buddy.proofs.Tags.{order-of, kind-of}
use Rattle.buddy.proofs.Clear.{order_small, free-head}
use Rattle.pages.specs.Info.{compound_info}
use Rattle.pages.specs.Said.{said}
use Rattle.pages.specs.Meaning.{free_order}
use Rattle.region.specs.Pages as Words
use Rattle.region.specs.Pages.{InBlock, FreeBlock, FreeList, buddy_of, blocks, frees}
use Rattle.region.proofs.Occurs.{once-occurs}
use Rattle.refine.specs.Image.{head_or}
use Rattle.refine.proofs.Buddies.{buddy-page, mod-head}
use Rattle.refine.proofs.FreeLists.{links-linked, linked-free, linked-full, linked-once, linked_long}
use Rattle.refine.proofs.WordsSay.{Says, says-tail, says-free, links-list, first-told, heads-told, free-told}

module _ {M : ℕ → Bool} {ws : List ℕ} {h : Heap} (says : Says M ws h) (tiled : Tiled M h.at) where
  to_block : {o p : ℕ} → FreeHead M h.at o p → FreeBlock ws M o p
  to_block f = record { managed = f.managed; is = ap free_order (says-free says f) }

  from_block : {o p : ℕ} → o < 6 → FreeBlock ws M o p → FreeHead M h.at o p
  from_block {o} {p} s f = free-told says tiled o p s f.managed f.is

  -- "Managed pages are tiled by blocks"
  pub tiled-words : Words.Tiled ws M
  tiled-words = record { each = block_of }
    where
      block_of : (q : ℕ) → T (M q) → InBlock ws M q
      block_of q m = record {
        page = s;
        order = o;
        block = record {
          small = omega (arith, order_small M h.at tiled q m);
          inside = λ p x y. b.inside p (cell-between o q p x y);
          aligned = mod-head o s (head-start o q);
          head = first-told says tiled q m;
          rest = record { each = tail_at };
        };
        low = start-le o q;
        high = lt-end o q;
      }
        where
          o : ℕ
          o = (h.at q).order

          s : ℕ
          s = start o q

          b : Block M h.at q
          b = tiled q m

          tail_at : (p : ℕ) → s + 1 ≤ p → p < s + 2 ^ o → said ws p ≡ Some (compound_info o)
          tail_at p x y = rw same at (says-tail says p (b.inside p near) (rw same (λ k. omega (arith, ap (first o) near))))
            where
              near : cell o p ≡ cell o q
              near = cell-between o q p (omega arith) y

              same : h.at p ≡ h.at q
              same = b.same p near

  -- "Both count arrays equal the counts": the blocks are counted at their heads
  pub blocks-told : (o n : ℕ) → o < 6 → count (heads M h.at o) n ≡ blocks ws M n o
  blocks-told o n s = count_same _ _ n (λ p _. heads-told says tiled o p s)

  -- "Below order 5 no two free blocks of one order are buddies"
  pub buddies-apart : Words.NoBuddies ws M → NoBuddies M h.at
  buddies-apart n o p q s mp mq fp fq near = by_cases (ℕ_discrete (cell o q) (cell o p))
      (λ d. sym d)
      (λ d. absurd (n.none o (start o p) s (head_of p mp fp) (rw (other d) (head_of q mq fq))))
    where
      head_of : (x : ℕ) → T (M x) → h.at x ≡ tag o free → FreeBlock ws M o (start o x)
      head_of x m f = rw (order-of f) at (to_block (free-head M h.at tiled x m (kind-of f)))

      other : cell o q ≢ cell o p → buddy_of o (start o p) ≡ start o q
      other d = buddy-page o (cell o p) ∙ ap (first o) (sym (buddy-is o (cell o p) q (sym near ∙ cell-suc o p) d))

  pub apart-buddies : NoBuddies M h.at → Words.NoBuddies ws M
  apart-buddies n = record { none = none }
    where
      none : (o p : ℕ) → o < 5 → FreeBlock ws M o p → FreeBlock ws M o (buddy_of o p) → ⊥
      none o p s f g = buddy-not (cell o p) (sym in-q ∙ sym (n o p q s x.managed y.managed x.is y.is (sym near)))
        where
          q : ℕ
          q = buddy_of o p

          x : FreeHead M h.at o p
          x = from_block (omega arith) f

          y : FreeHead M h.at o q
          y = from_block (omega arith) g

          in-q : cell o q ≡ buddy (cell o p)
          in-q = ap (λ z. cell o (buddy_of o z)) (sym x.head) ∙ ap (cell o) (buddy-page o (cell o p)) ∙ cell-first o _

          near : cell (suc o) q ≡ cell (suc o) p
          near = omega (arith, cell-suc o q, cell-suc o p, in-q, buddy-half (cell o p))

  -- "List o holds each free block of order o once, linked by the next fields, ending in none"
  pub listed-list : (o : ℕ) → o < 6 → Listed M h.at o (h.list o) → FreeList ws M o (head_or (h.list o))
  listed-list o s l = record {
    list = h.list o;
    linked = links-linked ws M o (h.list o) (links-list says o l) (λ p m. to_block (l.sound p m));
    once = λ p f. once-occurs p (h.list o) l.once (l.full p (from_block s f));
  }

  pub listed-long : (o n : ℕ) → o < 6 → ((p : ℕ) → T (M p) → p < n) → Listed M h.at o (h.list o) → length (h.list o) ≡ frees ws M n o
  unfolding listed-list
  listed-long o n s low l = linked_long (listed-list o s l) n low

  pub list-listed : {o head : ℕ} → o < 6 → (f : FreeList ws M o head) → Listed M h.at o f.list
  list-listed s f = record { sound = λ p m. from_block s (linked-free f p m); full = λ p x. linked-full f p (to_block x); once = linked-once f }
