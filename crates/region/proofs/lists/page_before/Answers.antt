-- Each step looks at one page of the walk, and goes on with what is left.
use Rattle.common.specs.Kit.{◌-◌, ◌≡◌, sym, ◌∙◌, eq-eqb, ne_eqb, arith}
use Rattle.region.specs.State.{page_before}
use Rattle.region.proofs.Walk.{walk_step, before-step}
use Rattle.region.proofs.lists.page_before.Goals as goal

pub next_free_pfn-current_pfn-requires : goal.next_free_pfn-current_pfn-requires
next_free_pfn-current_pfn-requires c = (walk_step _ _ _ _ _ c.loop-test.true c.loop.invariant.0).0

pub returns-then-current_pfn : goal.returns-then-current_pfn
returns-then-current_pfn c =
    let e = c.next_free_pfn-current_pfn.ensures in
    sym (c.loop.invariant.1 ∙ before-step _ _ _ _ _ c.loop-test.true ∙ simp (eq-eqb _ _ (sym e ∙ c.if-current_pfn.true)))

pub returns-then-current_pfn-pfn : goal.returns-then-current_pfn-pfn
returns-then-current_pfn-pfn c =
    let e = c.next_free_pfn-current_pfn.ensures in
    sym (c.loop.invariant.1
    ∙ before-step _ _ _ _ _ c.loop-test.true
    ∙ simp (ne_eqb _ _ (λ h. c.if-current_pfn.false (e ∙ h)), eq-eqb _ _ (sym e ∙ c.if-current_pfn-pfn.true)))

pub loop-preserved : goal.loop-preserved
loop-preserved c =
    let e = c.next_free_pfn-current_pfn.ensures in
    let i = c.loop.invariant in
    let more = c.loop-test.true in
    rw e (
      (walk_step _ _ _ _ _ more i.0).1 (λ h. c.if-current_pfn.false (e ∙ h)) (λ h. c.if-current_pfn-pfn.false (e ∙ h)),
      i.1
          ∙ before-step _ _ _ _ _ more
          ∙ simp (ne_eqb _ _ (λ h. c.if-current_pfn.false (e ∙ h)), ne_eqb _ _ (λ h. c.if-current_pfn-pfn.false (e ∙ h))),
    )

pub returns : goal.returns
unfolding page_before
returns c = let done : c.args.count - c.loop.counter ≡ 0 = omega arith in sym (c.loop.invariant.1 ∙ simp done)
