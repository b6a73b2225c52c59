-- Its own list, and what `find_order` finds above it, pick the case of `refill`.
use Rattle.common.specs.Kit.{ℕ, ◌+◌, ◌-◌, ◌<◌, ◌≡◌, List, get_or, sym, ◌∙◌, arith, eq-eqb, ne_eqb}
use Rattle.words.specs.Word.{no_page}
use Rattle.region.specs.Steps.{lowest_from, split_down, refill}
use Rattle.grant.proofs.Steps.{lowest_step}
use Rattle.grant.proofs.refill_page_list.Goals as goal

-- where its own list is empty
higher : (o : ℕ) (heads : List ℕ) → o < 6 → get_or heads o 0 ≡ no_page → lowest_from (6 - o) o heads ≡ lowest_from (6 - (o + 1)) (o + 1) heads
higher o heads h e = lowest_step o heads h ∙ simp (eq-eqb _ _ e)

pub returns-then-heads-order : goal.returns-then-heads-order
unfolding refill split_down
returns-then-heads-order c =
    let none : c.args.order - c.args.order ≡ 0 = omega arith in
    rw (lowest_step _ _ c.requires.order, ne_eqb _ _ c.if-heads-order.true, none)

pub returns-in_default : goal.returns-in_default
unfolding refill
returns-in_default c = simp (higher _ _ c.requires.order c.if-heads-order.false ∙ sym c.find_order.ensures ∙ c.in_default.is)

pub split_down-requires : goal.split_down-requires
split_down-requires c = c.requires.down _ (higher _ _ c.requires.order c.if-heads-order.false ∙ sym c.find_order.ensures ∙ c.in-Some.is)

pub returns : goal.returns
unfolding refill
returns c =
    simp (higher _ _ c.requires.order c.if-heads-order.false ∙ sym c.find_order.ensures ∙ c.in-Some.is) c.split_down.ensures
