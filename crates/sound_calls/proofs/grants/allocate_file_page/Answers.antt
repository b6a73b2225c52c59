-- By the law `file-code`. The code's types make what it calls sound input.
use Rattle.common.specs.Kit.{◌∙◌, arith, rules}
use Rattle.sound_calls.proofs.Typing.{good}
use Rattle.sound_calls.proofs.GrantLaws.{grant-ok, file-code}
use Rattle.sound_calls.proofs.grants.allocate_file_page.Goals as goal

pub allocate_info-requires : goal.allocate_info-requires
allocate_info-requires c = grant-ok (good c.args.region c.args.words.now (search rules) (search rules) (search rules) (λ i. search rules) c.requires) 0 (omega arith)

pub returns : goal.returns
returns c = c.allocate_info.ensures ∙ file-code (good c.args.region c.args.words.now (search rules) (search rules) (search rules) (λ i. search rules) c.requires)
