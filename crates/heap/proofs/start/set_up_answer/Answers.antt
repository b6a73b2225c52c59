-- The tests are those of `set_up_answer`, one by one.
use Rattle.common.specs.Kit.{◌+◌, ◌-◌, ◌*◌, ◌%◌, ◌^◌, ◌≤◌, ◌≡◌, true, ◌&&◌, sym, ◌∙◌, eqb, leb, arith, eq-eqb, le-leb, lt-leb}
use Rattle.region.specs.Layout.{max_pages}
use Rattle.region.proofs.Limits.{good-small}
use Rattle.heap.specs.Promise.{set_up_answer}
use Rattle.heap.proofs.start.set_up_answer.Goals as goal
use Rattle.heap.proofs.start.set_up_answer.Goals.{Else-not-pages_good, Else-page_count-start}

-- past the first test the pages are as many as a region may have
few : (c : Else-not-pages_good) → c.args.page_count ≤ 2 ^ 20
few c = good-small c.args.page_count (sym c.pages_good.ensures ∙ c.if-not-pages_good.false)

-- past the second the counts are sound input
counted : (c : Else-page_count-start) → (leb 1 c.args.page_count && leb c.args.page_count max_pages && eqb c.args.words c.args.page_count) ≡ true
counted c = rw (sym c.pages_good.ensures ∙ c.if-not-pages_good.false, eq-eqb _ _ c.if-words-page_count.false)

-- past the fourth, the start too
placed :
    (c : Else-page_count-start) →
    c.args.page_count ≤ 2 ^ 20 →
    (eqb (c.args.start_virt.0 % 4096) 0 && leb (c.args.start_virt.0 + 4096 * c.args.page_count) (2 ^ 64 - 1)) ≡ true
placed c small =
    simp (
      eq-eqb _ 0 c.if-start-ne0.false,
      le-leb (c.args.start_virt.0 + 4096 * c.args.page_count) (2 ^ 64 - 1) (omega (arith, small)),
    )

pub overflow_mul-page_count : goal.overflow_mul-page_count
overflow_mul-page_count c = omega (arith, few (goal.at.overflow_mul-page_count c).Else-not-pages_good)

pub overflow_sub-page_count : goal.overflow_sub-page_count
overflow_sub-page_count c = omega (arith, few (goal.at.overflow_sub-page_count c).Else-not-pages_good)

pub alloc_pages-requires : goal.alloc_pages-requires
alloc_pages-requires c = omega (arith, few (goal.at.alloc_pages-requires c).Else-not-pages_good)

pub returns-then-alloc_pages-allocated : goal.returns-then-alloc_pages-allocated
unfolding set_up_answer
returns-then-alloc_pages-allocated c =
    let at = goal.at.returns-then-alloc_pages-allocated c in
    let past = at.Else-page_count-start in
    simp (counted past, placed past (few at.Else-not-pages_good), ← c.alloc_pages.ensures, lt-leb _ _ c.if-alloc_pages-allocated.true)

pub returns : goal.returns
unfolding set_up_answer
returns c =
    let at = goal.at.returns c in
    let past = at.Else-page_count-start in
    simp (counted past, placed past (few at.Else-not-pages_good), ← c.alloc_pages.ensures, le-leb _ _ c.if-alloc_pages-allocated.false)
