-- Each step looks at one list, and goes on with those above it.
use Rattle.common.specs.Kit.{◌-◌, ◌≡◌, sym, ◌∙◌, arith, eq-eqb, ne_eqb}
use Rattle.region.specs.Steps.{lowest_from}
use Rattle.grant.proofs.Steps.{lowest_step}
use Rattle.grant.proofs.find_order.Goals as goal

pub loop-ord-preserved : goal.loop-ord-preserved
loop-ord-preserved c =
    (omega arith, c.loop-ord.invariant.1 ∙ lowest_step _ _ c.if-ord-ge-MAX_ORDER.false ∙ simp (eq-eqb _ _ c.if-heads-ord.false))

pub returns-then-ord-ge-MAX_ORDER : goal.returns-then-ord-ge-MAX_ORDER
unfolding lowest_from
returns-then-ord-ge-MAX_ORDER c = let e : 6 - c.loop-ord.ord ≡ 0 = omega arith in sym (c.loop-ord.invariant.1 ∙ simp e)

pub returns-then-heads-ord : goal.returns-then-heads-ord
returns-then-heads-ord c = sym (c.loop-ord.invariant.1 ∙ lowest_step _ _ c.if-ord-ge-MAX_ORDER.false ∙ simp (ne_eqb _ _ c.if-heads-ord.true))
