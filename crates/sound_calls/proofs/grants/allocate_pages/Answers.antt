-- By the law `allocate-code`. The code's types make what it calls sound input.
use Rattle.common.specs.Kit.{◌∙◌, rules}
use Rattle.sound_calls.proofs.SoundInput.{SoundInput}
use Rattle.sound_calls.proofs.Typing.{good}
use Rattle.sound_calls.proofs.GrantLaws.{grant-ok, allocate-code}
use Rattle.sound_calls.proofs.grants.allocate_pages.Goals as goal
use Rattle.sound_calls.proofs.grants.allocate_pages.Goals.{Else-order-ge-MAX_ORDER}

state : (c : Else-order-ge-MAX_ORDER) → SoundInput c.args.region c.args.words.now
state c = good c.args.region c.args.words.now (search rules) (search rules) (search rules) (λ i. search rules) c.requires

pub allocate_info-requires : goal.allocate_info-requires
allocate_info-requires c =
    grant-ok (state (goal.at.allocate_info-requires c).Else-order-ge-MAX_ORDER) _ c.if-order-ge-MAX_ORDER.false

pub returns : goal.returns
returns c =
    c.allocate_info.ensures ∙ allocate-code (state (goal.at.returns c).Else-order-ge-MAX_ORDER) _ c.if-order-ge-MAX_ORDER.false
