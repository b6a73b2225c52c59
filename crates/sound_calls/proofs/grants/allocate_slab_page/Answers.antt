-- By the laws `slab-code` and `slab-bad`. The code's types make what it calls sound input.
use Rattle.common.specs.Kit.{sym, ◌∙◌, arith, rules}
use Rattle.sound_calls.proofs.SoundInput.{SoundInput}
use Rattle.sound_calls.proofs.Typing.{good}
use Rattle.sound_calls.proofs.GrantLaws.{grant-ok, slab-code, slab-bad}
use Rattle.sound_calls.proofs.grants.allocate_slab_page.Goals as goal
use Rattle.sound_calls.proofs.grants.allocate_slab_page.Goals.{After-good_item}

state : (c : After-good_item) → SoundInput c.args.region c.args.words.now
state c = good c.args.region c.args.words.now (search rules) (search rules) (search rules) (λ i. search rules) c.requires

pub allocate_info-requires : goal.allocate_info-requires
allocate_info-requires c = grant-ok (state (goal.at.allocate_info-requires c).After-good_item) 0 (omega arith)

pub returns-then-good_item : goal.returns-then-good_item
returns-then-good_item c =
    c.allocate_info.ensures
    ∙ slab-code (state (goal.at.returns-then-good_item c).After-good_item) _ (sym c.good_item.ensures ∙ c.if-good_item.true)

pub returns-in-None : goal.returns-in-None
returns-in-None c =
    rw c.refuse-in-None.ensures (rw (sym c.find_order.ensures ∙ c.in-None.is) at
    (slab-bad (state (goal.at.returns-in-None c).After-good_item) c.args.item_size (sym c.good_item.ensures ∙ c.if-good_item.false)))

pub returns-in-Some : goal.returns-in-Some
returns-in-Some c =
    rw c.refuse.ensures (rw (sym c.find_order.ensures ∙ c.in-Some.is) at
    (slab-bad (state (goal.at.returns-in-Some c).After-good_item) c.args.item_size (sym c.good_item.ensures ∙ c.if-good_item.false)))
