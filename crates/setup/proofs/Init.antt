-- Rule 7: set-up on words that held anything leaves the record and words that show what set-up leaves of the heap; every call on the way is
-- safe, and the result is sound.
use Rattle.common.specs.Kit.{ℕ, ◌+◌, ◌-◌, ◌*◌, ◌/◌, ◌≤◌, ◌≡◌, ◌∙◌, by_cases, List, length, le_refl, dec_lt, arith, lt-ltb, le-ltb}
use Rattle.words.specs.declared.place.VirtAddr.{VirtAddr}
use Rattle.buddy.specs.Runs.{cell, first}
use Rattle.buddy.specs.Rules.{State, empty, grow_many, set_up_from, set_up, span}
use Rattle.buddy.proofs.Spans.{T-span, span-glue}
use Rattle.buddy.proofs.SetUp.{single-managed, large-managed}
use Rattle.region.specs.Layout.{bare, end_of, alloc_pages, managed, Limits}
use Rattle.region.specs.Sound.{Sound}
use Rattle.refine.specs.Image.{image}
use Rattle.region.specs.declared.HeapMemoryRegion.{HeapMemoryRegion}
use Rattle.refine.proofs.Shown.{words_long}
use Rattle.refine.proofs.Step.{Lent, Rule}
use Rattle.refine.proofs.Fresh.{fresh, fresh-fit, fresh-sound}
use Rattle.setup.specs.Steps.{grow_from, GrowFromOk, grow_span, GrowSpanOk, init_memory, InitMemoryOk}
use Rattle.setup.proofs.Blank.{empty-fit, blank-image}
use Rattle.setup.proofs.Many.{Grown, many-image, pages-image}

module _ (r : HeapMemoryRegion) (lent : Lent r) (lo hi : ℕ) where
  abbrev a : ℕ
  a = r.allocated

  abbrev e : ℕ
  e = end_of r

  -- the whole runs of order 5, then the pages below them, then those above
  module _ (from : a ≤ lo * 32) (ends : hi * 32 ≤ e) (some : lo ≤ hi) where
    abbrev s₁ : State
    s₁ = grow_many 5 lo (hi - lo) empty

    runs : Grown r 5 lo (lo * 32) (hi - lo) empty
    unfolding empty cell first
    runs = many-image lent empty (empty-fit r) 5 lo (le_refl 5) (hi - lo) (λ i x y. record {
      fresh = λ q k t. t;
      room = λ q k. omega arith;
    })

    abbrev s₂ : State
    s₂ = grow_many 0 a (lo * 32 - a) s₁

    low : Grown r 0 a a (lo * 32 - a) s₁
    low = pages-image lent s₁ runs.fit a (lo * 32) (omega arith)
        (λ q x y t. omega (arith, T-span (lo * 32) (hi * 32) q (rw (large-managed lo hi q) at t)))

    managed₂ : (q : ℕ) → s₂.managed q ≡ span a (hi * 32) q
    managed₂ q = single-managed a (lo * 32) s₁ q ∙ rw (large-managed lo hi q) (span-glue a (lo * 32) (hi * 32) q from (omega arith))

    high : Grown r 0 (hi * 32) (hi * 32) (e - hi * 32) s₂
    high = pages-image lent s₂ low.fit (hi * 32) e (le_refl e)
        (λ q x y t. omega (arith, T-span a (hi * 32) q (rw (managed₂ q) at t)))

  -- with no whole run, all pages singly
  singly : Grown r 0 a a (e - a) empty
  unfolding empty
  singly = pages-image lent empty (empty-fit r) a e (le_refl e) (λ q x y t. t)

  from-image : a ≤ lo * 32 → hi * 32 ≤ e → Rule (set_up_from a e lo hi).managed r (GrowFromOk a e (lo * 32) (hi * 32) (image r empty.heap))
      (grow_from a e (lo * 32) (hi * 32) (image r empty.heap)) (set_up_from a e lo hi).heap
  unfolding grow_from set_up_from
  from-image from ends = by_cases (dec_lt lo hi)
      (λ l.
      let some : lo ≤ hi = omega arith in
      let many : (hi * 32 - lo * 32) / 32 ≡ hi - lo = omega arith in
      let one = runs from ends some in
      let two = low from ends some in
      let three = high from ends some in
      record {
        ok = record {
          runs = λ _. rw many one.ok;
          low = λ _. rw (many, one.leaves) two.ok;
          high = λ _. rw (many, one.leaves, two.leaves) three.ok;
          all = λ x. absurd (omega arith);
        };
        leaves = rw (lt-ltb (lo * 32) (hi * 32) (omega arith), lt-ltb lo hi l, many, one.leaves, two.leaves) three.leaves;
        fit = rw (lt-ltb lo hi l) three.fit;
      })
      (λ l. record {
        ok = record {
          runs = λ x. absurd (omega arith);
          low = λ x. absurd (omega arith);
          high = λ x. absurd (omega arith);
          all = λ _. singly.ok;
        };
        leaves = rw (le-ltb (lo * 32) (hi * 32) (omega arith), le-ltb lo hi (omega arith)) singly.leaves;
        fit = rw (le-ltb lo hi (omega arith)) singly.fit;
      })

-- all managed pages of a region of which none is managed yet
module _ (r : HeapMemoryRegion) (lent : Lent r) where
  abbrev grown : Rattle.region.specs.State.State
  grown = grow_span r.allocated (end_of r) (image r empty.heap)

  span-image : Rule (managed r grown.ws) r (GrowSpanOk r.allocated (end_of r) (image r empty.heap)) grown (fresh r)
  unfolding grow_span set_up
  span-image =
      let steps = from-image r lent ((r.allocated + 31) / 32) (end_of r / 32) (omega arith) (omega arith) in
      record {
        ok = record { order = lent.boot; ends = rw (words_long r empty.heap) (omega arith); calls = steps.ok };
        leaves = steps.leaves;
        fit = fresh-fit r grown.ws;
      }

module _ (start : VirtAddr) (n a : ℕ) (ws : List ℕ) (limits : Limits start.0 n a (length ws)) where
  lent : Lent (bare start n a)
  lent = rw limits.long at limits

  -- rule 7, a result
  pub init-image : Rule (managed (bare start n a) (init_memory start n a ws).ws) (bare start n a) (InitMemoryOk start n a ws) (init_memory start n a ws)
      (set_up a (alloc_pages n)).heap
  unfolding init_memory
  init-image = rw (blank-image start n a ws limits.long) (span-image (bare start n a) lent)

  pub init-sound : Sound (init_memory start n a ws).reg (init_memory start n a ws).ws
  init-sound = rw init-image.leaves (fresh-sound (bare start n a) lent)
