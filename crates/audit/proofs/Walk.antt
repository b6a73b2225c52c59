-- The walk from block to block: what it keeps at the end of each block. The pages of a block after its first head nothing, so they add to no
-- count and are no half; of two free buddies the upper one is met right after the lower one; a list goes one page on with each of its free
-- blocks.
use Rattle.common.specs.Kit.{ℕ, zero, suc, ◌+◌, ◌-◌, ◌^◌, ◌≤◌, ◌<◌, ◌≡◌, refl, sym, ap, ◌∙◌, Bool, true, false, not, ◌&&◌, and-false, false≢true, List, length, get_or, replicate, length-set, get_or-replicate, get_or-set_same, get_or-set_other, pow_pos, le_refl, add-one, ℕ_discrete, dec_lt, arith, eq-eqb, ne_eqb, le-ltb, Some, None}
use Rattle.common.proofs.Tests.{by-test, T_false}
use Rattle.words.specs.Word.{no_page}
use Rattle.pages.specs.Said.{said}
use Rattle.pages.specs.Meaning.{no_order, head_order, free_order}
use Rattle.region.specs.Pages.{Block}
use Rattle.audit.specs.Decides.{Decides}
use Rattle.audit.specs.Check.{all, tiles, is_free, chain, block_at, lower_half, lonely}
use Rattle.audit.specs.Counts.{one_more, Tallies}
use Rattle.audit.specs.Survey.{upper_half, page_after, stepped, noted, settled, Surveyed}
use Rattle.audit.specs.declared.survey.Findings.{Findings}
use Rattle.audit.proofs.Limit.{Bounded}
use Rattle.audit.proofs.Decisions.{decide-as}
use Rattle.audit.proofs.Loops.{all-step, all-ends, all-next, all-run}
use Rattle.audit.proofs.Tallies.{tally-none, tally-most, tally-over, tally-run}
use Rattle.audit.proofs.Tiling.{free-head, TiledFrom, over, starts, behind, decide-block, none_left, tiles-from}
use Rattle.audit.proofs.Buddies.{high_half, half-next}

module _ (ws : List ℕ) (M : ℕ → Bool) where
  -- each list has come so far as it has free blocks
  pub record Walked (heads fs at : List ℕ) : Type 0 where
    pub long : length at ≡ 6
    pub on : (o : ℕ) → o < 6 → (m : ℕ) → chain ws M o (get_or fs o 0 + m) (get_or heads o 0) ≡ chain ws M o m (get_or at o 0)

  walked_none : (heads : List ℕ) → length heads ≡ 6 → Walked heads (replicate 6 0) heads
  walked_none heads h =
      record {
        long = h;
        on = λ o k m.
            let z : get_or (replicate 6 0) o 0 + m ≡ m = omega (arith, get_or-replicate {A = ℕ} 6 o 0 0 k) in
            ap (λ n. chain ws M o n (get_or heads o 0)) z;
      }

  -- the test for buddies at a page, and the one that is left over from the block of order b that ends there, if it is free
  abbrev apart : ℕ → Bool
  apart p = not (lower_half ws M (free_order (said ws p)) p)

  abbrev parted : ℕ → ℕ → Bool
  parted b p = not (M p && upper_half b (free_order (said ws p)) p)

  fresh : (p : ℕ) → parted no_order p ≡ true
  unfolding upper_half
  fresh p = simp and-false

-- before page p everything is as it should be, but that the last block, if it is free, may be the lower one of two buddies; b is then its
-- order, else no order
pub record Walk (ws : List ℕ) (M : ℕ → Bool) (e : ℕ) (heads : List ℕ) (s : Findings) (b p : ℕ) : Type 0 where
  pub upto : p ≤ e
  pub tiled : Decides (tiles ws M e e 0) (TiledFrom ws M p)
  pub lone : lonely ws M e ≡ parted ws M b p && all (apart ws M) p (e - p)
  pub tallies : Tallies ws M p s.blocks s.frees
  pub lists : Walked ws M heads s.frees s.at

bad : (ws : List ℕ) (M : ℕ → Bool) (e : ℕ) {heads : List ℕ} → false ≡ settled ws M e → Surveyed ws M e heads None
bad ws M e a = record { answer = a; stocked = tt }

module _ (ws : List ℕ) {M : ℕ → Bool} {e : ℕ} (bound : Bounded M e) where
  end-out : M e ≡ false
  end-out = T_false (M e) (λ t. omega (arith, bound.below e t))

  -- e is on no list
  past : (o m : ℕ) → chain ws M o m e ≡ false
  unfolding chain is_free
  past o zero = ne_eqb e no_page (λ q. omega (arith, bound.pages, q))
  past o (suc m) = rw end-out

  -- one page of a list, then the rest from the page after it
  chain-after : (o m h : ℕ) → chain ws M o (suc m) h ≡ chain ws M o m (page_after ws M e o h)
  unfolding chain page_after
  chain-after o m h = by-test (is_free ws M o h) (λ t. rw t) (λ t. rw t (sym (past o m)))

  walked_more : {heads fs at : List ℕ} (k : ℕ) → length fs ≡ 6 → Walked ws M heads fs at → Walked ws M heads (one_more fs k) (stepped ws M e k at)
  walked_more {heads} {fs} {at} k l w =
      record {
        long = length-set at k _ ∙ w.long;
        on = λ o h m.
            elim (ℕ_discrete o k) [
              | yes q ↦
                  rw q
                  (rw (
                    get_or-set_same fs k (get_or fs k 0 + 1) 0 (omega (arith, q)),
                    get_or-set_same at k (page_after ws M e k (get_or at k 0)) 0 (omega (arith, q, w.long)),
                  )
                  (ap (λ n. chain ws M k n (get_or heads k 0)) (omega arith)
                  ∙ w.on k (omega (arith, q)) (suc m)
                  ∙ chain-after k m (get_or at k 0)))
              | no n ↦
                  rw (get_or-set_other fs k o (get_or fs k 0 + 1) 0 n, get_or-set_other at k o (page_after ws M e k (get_or at k 0)) 0 n)
                  (w.on o h m)
            ];
      }

  -- over a page that is not in M
  walk-over :
      {heads : List ℕ} {s : Findings} {b p : ℕ} → Walk ws M e heads s b p → p < e → M p ≡ false → Walk ws M e heads s no_order (suc p)
  unfolding lower_half is_free
  walk-over {p = p} w l out =
      rw (← add-one p) (record {
        upto = omega arith;
        tiled = decide-as (over ws M out).0 (over ws M out).1 w.tiled;
        lone = w.lone ∙ rw (out, fresh ws M (p + 1)) (all-next (apart ws M) p e refl l (rw out));
        tallies = record { blocks = tally-over _ M out w.tallies.blocks; frees = tally-over _ M out w.tallies.frees };
        lists = w.lists;
      })

  -- nothing is met before page a, where no page before it is in M
  pub walk-to :
      (heads : List ℕ) → length heads ≡ 6 → (a : ℕ) → a ≤ e → ((q : ℕ) → q < a → M q ≡ false) →
      Walk ws M e heads (record { blocks = replicate 6 0; frees = replicate 6 0; at = heads }) no_order a
  walk-to heads l zero h none =
      let z : e - 0 ≡ e = omega arith in
      record {
        upto = h;
        tiled = tiles-from ws M bound e 0 (omega arith);
        lone = rw (fresh ws M 0, z);
        tallies = record { blocks = tally-none _ M; frees = tally-none _ M };
        lists = walked_none ws M heads l;
      }
  walk-to heads l (suc a) h none =
      walk-over (walk-to heads l a (omega arith) (λ q k. none q (omega arith))) h (none a (omega arith))

  module _ {heads : List ℕ} {s : Findings} {b p : ℕ} (w : Walk ws M e heads s b p) (on : M p ≡ true) where
    abbrev o : ℕ
    o = head_order (said ws p)

    abbrev f : ℕ
    f = free_order (said ws p)

    below : p < e
    below = bound.below p (rw on tt)

    pub few : (o : ℕ) → (get_or s.blocks o 0 < e) × (get_or s.frees o 0 < e)
    few o = (
      omega (arith, below, tally-most (λ q. head_order (said ws q)) M p w.tallies.blocks o),
      omega (arith, below, tally-most (λ q. free_order (said ws q)) M p w.tallies.frees o),
    )

    pub block : block_at ws M p o ≡ true → Block ws M p o
    block t = (decide-block ws M p o refl).yes t

    pub block-ends : Block ws M p o → p + 2 ^ o ≤ e
    block-ends k = let size = pow_pos o in omega (arith, bound.below _ (k.inside (p + 2 ^ o - 1) (omega arith) (omega arith)))

    -- whether this block is the lower one of two buddies shows behind it
    half-behind : Block ws M p o → apart ws M p ≡ parted ws M f (p + 2 ^ o)
    unfolding upper_half is_free
    half-behind k =
        elim (dec_lt f 5) [
          | yes l ↦
              let q = free-head (said ws p) (omega arith) in
              rw q (ap not (half-next ws M f p (rw (← q) k.aligned) (rw (on, eq-eqb f f refl))))
          | no n ↦ rw (high_half ws M f p (omega arith), le-ltb f 5 (omega arith), and-false)
        ]

    -- with no upper half here, the buddies are as those from this block on
    lone-more : Block ws M p o → upper_half b f p ≡ false → lonely ws M e ≡ parted ws M f (p + 2 ^ o) && all (apart ws M) (p + 2 ^ o) (e - (p + 2 ^ o))
    lone-more here n =
        let size = pow_pos o in
        w.lone
        ∙ rw (on, n, ← half-behind here)
        (all-step (apart ws M) p e refl below
        ∙ ap (λ x. apart ws M p && x) (all-run (apart ws M) (2 ^ o - 1) (p + 1) (p + 2 ^ o) e (omega arith) (block-ends here) none refl))
      where
        none : (q : ℕ) → p + 1 ≤ q → q < p + 2 ^ o → apart ws M q ≡ true
        none q l h = ap (λ d. not (lower_half ws M (free_order d) q)) (here.rest.each q l h) ∙ ap not (high_half ws M no_order q (omega arith))

    -- a block more, that is no upper half
    pub walk_more : block_at ws M p o ≡ true → upper_half b f p ≡ false → Walk ws M e heads (noted ws M e o f s) f (p + 2 ^ o)
    walk_more t n =
        let here = block t in
        let size = pow_pos o in
        record {
          upto = block-ends here;
          tiled = decide-as (behind ws M here).0 (behind ws M here).1 w.tiled;
          lone = lone-more here n;
          tallies = record {
            blocks = tally-run _ M on (omega arith) (λ q l h. ap head_order (here.rest.each q (omega arith) h)) w.tallies.blocks;
            frees = tally-run _ M on (omega arith) (λ q l h. ap free_order (here.rest.each q (omega arith) h)) w.tallies.frees;
          };
          lists = walked_more f w.tallies.frees.long w.lists;
        }

    -- the walk stops
    pub no_block : block_at ws M p o ≡ false → Surveyed ws M e heads None
    no_block t =
        bad ws M e (by-test (tiles ws M e e 0)
        (λ y. absurd (false≢true (sym t ∙ (decide-block ws M p o refl).back (starts ws M on (w.tiled.yes y)))))
        (λ n. rw n))

    pub no_head : head_order (said ws p) ≡ no_order → Surveyed ws M e heads None
    unfolding block_at
    no_head q = no_block (rw q)

    pub a_half : upper_half b f p ≡ true → Surveyed ws M e heads None
    a_half t = bad ws M e (rw (w.lone, on, t) (sym (and-false (tiles ws M e e 0))))

  pub walk_ends : {heads : List ℕ} {s : Findings} {b p : ℕ} → Walk ws M e heads s b p → e ≤ p → Surveyed ws M e heads (Some s)
  unfolding chain
  walk_ends {heads} {s} {b} {p} w h =
      let q : p ≡ e = omega (arith, w.upto) in
      record {
        answer = rw (w.tiled.back (none_left ws M bound h), w.lone, q, end-out, ← all-ends (apart ws M) e e refl (le_refl e));
        stocked = record {
          tallies = rw q at w.tallies;
          chained = λ o k. let n : get_or s.frees o 0 ≡ get_or s.frees o 0 + 0 = omega arith in ap (λ m. chain ws M o m (get_or heads o 0)) n ∙ w.lists.on o k 0;
        };
      }
