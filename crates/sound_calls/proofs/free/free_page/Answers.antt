-- By the law `free-code`. The code's types make what it calls sound input.
use Rattle.common.specs.Kit.{◌≡◌, sym, ap, ◌∙◌, [], arith, rules, lt-ltb, le-ltb}
use Rattle.words.specs.declared.place.PageAt.TheVariants.{Start}
use Rattle.pages.specs.Said.{said}
use Rattle.sound_calls.specs.Answer.{ok}
use Rattle.sound_calls.specs.Promise.{at_page}
use Rattle.sound_calls.specs.Code.{freeable, leaves}
use Rattle.sound_calls.proofs.SoundInput.{SoundInput}
use Rattle.sound_calls.proofs.Typing.{good}
use Rattle.sound_calls.proofs.Places.{place, start-in, page-starts}
use Rattle.sound_calls.proofs.FreeLaws.{free-ok, free-code}
use Rattle.sound_calls.proofs.free.free_page.Goals as goal
use Rattle.sound_calls.proofs.free.free_page.Goals.{In-Ok, After-order_to_free}

state : (c : In-Ok) → SoundInput c.args.region c.args.words.now
state c = good c.args.region c.args.words.now (search rules) (search rules) (search rules) (λ i. search rules) c.requires

-- the address starts a page
found : (c : In-Ok) → place c.args.region c.args.vaddr.0 ≡ Start (record { 0 = c.in-Ok.pfn })
found c = page-starts _ _ (sym c.page_of.ensures ∙ c.in-Ok.is)

-- what the page's word tells
told : (c : After-order_to_free) → freeable (said c.args.words.now c.in-Ok.pfn) ≡ c.order_to_free.result
told c = sym (c.order_to_free.ensures ∙ ap freeable c.read_page_info.ensures)

pub returns-then-pfn-region : goal.returns-then-pfn-region
unfolding at_page
returns-then-pfn-region c =
    let s = (goal.at.returns-then-pfn-region c).In-Ok in
    let r = c.refuse-then-pfn-region.ensures in
    rw r (rw (found s, lt-ltb _ _ c.if-pfn-region.true) at (free-code (state s) c.args.vaddr.0))

pub read_page_info-requires : goal.read_page_info-requires
read_page_info-requires c =
    let s = (goal.at.read_page_info-requires c).In-Ok in
    omega (arith, c.requires.limits.long, start-in c.args.region _ _ (found s))

pub returns-in_default : goal.returns-in_default
unfolding at_page
returns-in_default c =
    let s = (goal.at.returns-in_default c).In-Ok in
    let none = told (goal.at.returns-in_default c).After-order_to_free ∙ c.in_default.is in
    let r = c.refuse-in_default.ensures in
    rw r (rw (found s, le-ltb _ _ c.if-pfn-region.false, none) at (free-code (state s) c.args.vaddr.0))

pub free_page_order-rest-requires : goal.free_page_order-rest-requires
free_page_order-rest-requires c =
    let s = (goal.at.free_page_order-rest-requires c).In-Ok in
    let some = told (goal.at.free_page_order-rest-requires c).After-order_to_free ∙ c.in-Some.is in
    free-ok (state s) _ _ c.if-pfn-region.false (start-in c.args.region _ _ (found s)) some

pub returns : goal.returns
unfolding at_page
returns c =
    let s = (goal.at.returns c).In-Ok in
    let some = told (goal.at.returns c).After-order_to_free ∙ c.in-Some.is in
    ap (leaves (ok [])) c.free_page_order-rest.ensures
    ∙ (rw (found s, le-ltb _ _ c.if-pfn-region.false, some) at (free-code (state s) c.args.vaddr.0))
