-- By the law `get-code`. The code's types make what it calls sound input.
use Rattle.common.specs.Kit.{◌≡◌, sym, ◌∙◌, arith, rules}
use Rattle.words.specs.declared.place.PageAt.TheVariants.{Start}
use Rattle.sound_calls.specs.Answer.{effect_of}
use Rattle.sound_calls.specs.Promise.{at_page}
use Rattle.sound_calls.proofs.Typing.{good}
use Rattle.sound_calls.proofs.Places.{place, start-in, page-starts}
use Rattle.sound_calls.proofs.FileLaws.{get-code}
use Rattle.sound_calls.proofs.files.get_file_page.Goals as goal
use Rattle.sound_calls.proofs.files.get_file_page.Goals.{In_ok-pfn}

-- the address starts a page
found : (c : In_ok-pfn) → place c.args.region c.args.vaddr.0 ≡ Start (record { 0 = c.in_ok-pfn.pfn })
found c = page-starts _ _ (sym c.page_of.ensures ∙ c.in_ok-pfn.was)

pub get_at-requires : goal.get_at-requires
get_at-requires c = omega (arith, c.requires.limits.long, start-in c.args.region _ _ (found (goal.at.get_at-requires c).In_ok-pfn))

pub returns : goal.returns
unfolding at_page
returns c =
    let state = good c.args.region c.args.words.now (search rules) (search rules) (search rules) (λ i. search rules) c.requires in
    let got = c.get_at.ensures in
    (λ i. effect_of (got.answer i) c.args.region (got.words i))
    ∙ (rw (found (goal.at.returns c).In_ok-pfn) at (get-code state c.args.vaddr.0))
