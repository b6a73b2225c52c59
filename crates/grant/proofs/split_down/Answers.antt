-- Each turn takes the head of a list and splits it, one step of `split_down`.
use Rattle.common.specs.Kit.{ℕ, ◌+◌, ◌-◌, ◌<◌, ◌≡◌, sym, ◌∙◌, arith}
use Rattle.region.specs.Steps.{split_down}
use Rattle.grant.proofs.Steps.{down_step, ok_step}
use Rattle.grant.proofs.split_down.Goals as goal

-- the list of a turn
list : {o ord : ℕ} → o < ord → ord - 1 + 1 ≡ ord
list h = omega arith

pub get_next_page-taken-requires : goal.get_next_page-taken-requires
get_next_page-taken-requires c = rw (list c.loop-ord-test.true) (ok_step _ _ _ c.loop-ord-test.true c.loop-ord.invariant.0).0

pub returns-in_default : goal.returns-in_default
returns-in_default c =
    let more = c.loop-ord-test.true in
    let taken = rw (list more) at c.get_next_page-taken.ensures in
    taken.leaves ∙ sym (c.loop-ord.invariant.1 ∙ down_step _ _ _ more ∙ simp (sym taken.answers ∙ c.in_default.is))

pub split_page-rest-requires : goal.split_page-rest-requires
split_page-rest-requires c =
    let more = c.loop-ord-test.true in
    let taken = rw (list more) at c.get_next_page-taken.ensures in
    rw (list more, taken.leaves) ((ok_step _ _ _ more c.loop-ord.invariant.0).1 _ (sym taken.answers ∙ c.in-Some.is)).0

pub loop-ord-preserved : goal.loop-ord-preserved
loop-ord-preserved c =
    let more = c.loop-ord-test.true in
    let i = c.loop-ord.invariant in
    let taken = rw (list more) at c.get_next_page-taken.ensures in
    let some = sym taken.answers ∙ c.in-Some.is in
    rw (c.split_page-rest.ensures, list more, taken.leaves) (((ok_step _ _ _ more i.0).1 _ some).1, rw (i.1 ∙ down_step _ _ _ more) (simp some))

pub returns : goal.returns
unfolding split_down
returns c = let e : c.loop-ord.ord - c.args.order ≡ 0 = omega arith in sym (c.loop-ord.invariant.1 ∙ simp e)
