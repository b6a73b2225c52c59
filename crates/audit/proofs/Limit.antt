-- The pages of a region in its limits are few, and the managed ones lie below the end; and the six lines on its numbers, as the code asks them.
use Rattle.common.specs.Kit.{ℕ, ◌≤◌, ◌<◌, ◌≡◌, sym, ◌+◌, ◌-◌, ◌*◌, ◌%◌, ◌^◌, ◌∙◌, Bool, true, false, ◌&&◌, and-true, and_assoc, List, T, eqb, leb, length, arith, le-leb}
use Rattle.words.specs.Word.{no_page}
use Rattle.buddy.specs.Rules.{span}
use Rattle.buddy.proofs.Spans.{T-span}
use Rattle.region.specs.Layout.{max_pages, alloc_pages, end_of, managed, Limits}
use Rattle.region.specs.State.{room}
use Rattle.region.proofs.Limits.{pages-small, good-small}
use Rattle.region.specs.declared.HeapMemoryRegion.{HeapMemoryRegion}
use Rattle.audit.specs.Check.{long, aligned, ends, fits, keeps, numbers, every}
use Rattle.audit.specs.Counts.{InLimits, Within}
use Rattle.audit.proofs.Decisions.{decide-same, decide-as, decide-le}

-- the pages of M lie below e, and none is NO_PAGE
pub record Bounded (M : ℕ → Bool) (e : ℕ) : Type 0 where
  pub below : (q : ℕ) → T (M q) → q < e
  pub pages : e < no_page

pub within-bounded : {ws : List ℕ} {a e : ℕ} → Within ws a e → Bounded (span a e) e
within-bounded {ws} {a} {e} w = record { below = λ q t. (T-span a e q t).1; pages = omega (arith, w.few) }

pub limits-few : {start n a words : ℕ} → Limits start n a words → n ≤ room
limits-few {n = n} l = omega (arith, pages-small n l.most)

pub limits-within : (ws : List ℕ) {start n a : ℕ} → Limits start n a (length ws) → Within ws a (alloc_pages n)
limits-within ws l = record { from = l.boot; ends = omega (arith, l.long); few = omega (arith, limits-few l) }

pub limits-bounded : (r : HeapMemoryRegion) (ws : List ℕ) → InLimits r ws → Bounded (managed r ws) (end_of r)
limits-bounded r ws l = within-bounded (limits-within ws l)

-- the six lines, the first two of them as one test
pub first_two : (r : HeapMemoryRegion) (ws : List ℕ) → every (keeps r ws) numbers ≡
    (leb 1 r.page_count && leb r.page_count max_pages) &&
    (keeps r ws long && (keeps r ws aligned && (keeps r ws ends && (keeps r ws fits && true))))
unfolding keeps
first_two r ws = sym (and_assoc (leb 1 r.page_count) _ _)

pub few-first : (r : HeapMemoryRegion) (ws : List ℕ) → (leb 1 r.page_count && leb r.page_count max_pages) ≡ false → every (keeps r ws) numbers ≡ false
few-first r ws bad = first_two r ws ∙ rw bad

-- past these, the others as the code asks them
pub number-tests :
    (r : HeapMemoryRegion) (ws : List ℕ) → (leb 1 r.page_count && leb r.page_count max_pages) ≡ true →
    every (keeps r ws) numbers
    ≡ eqb (length ws) r.page_count
    && (eqb (r.start_virt.0 % 4096) 0
    && (leb r.start_virt.0 (2 ^ 64 - 1 - 4096 * r.page_count) && leb r.allocated (alloc_pages r.page_count)))
unfolding keeps
number-tests r ws good =
    let small = good-small r.page_count good in
    let ends : leb (r.start_virt.0 + 4096 * r.page_count) (2 ^ 64 - 1) ≡ leb r.start_virt.0 (2 ^ 64 - 1 - 4096 * r.page_count) =
    decide-same (decide-le _ _) (decide-as (λ x. omega (arith, small)) (λ x. omega (arith, small)) (decide-le _ _)) in
    first_two r ws ∙ rw (good, ends) (simp and-true)

pub ruleset tests = (good-small, few-first, number-tests, le-leb)
