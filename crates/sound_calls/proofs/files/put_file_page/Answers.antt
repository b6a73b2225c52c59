-- By the law `put-code`. The code's types make what it calls sound input.
use Rattle.common.specs.Kit.{◌≡◌, sym, ◌∙◌, rules}
use Rattle.words.specs.declared.place.PageAt.TheVariants.{Start}
use Rattle.sound_calls.specs.Promise.{at_page}
use Rattle.sound_calls.specs.Code.{leaves}
use Rattle.sound_calls.proofs.SoundInput.{SoundInput}
use Rattle.sound_calls.proofs.Typing.{good}
use Rattle.sound_calls.proofs.Places.{place, start-in, page-starts}
use Rattle.sound_calls.proofs.FileLaws.{put-ok, put-code}
use Rattle.sound_calls.proofs.files.put_file_page.Goals as goal
use Rattle.sound_calls.proofs.files.put_file_page.Goals.{In-Ok}

state : (c : In-Ok) → SoundInput c.args.region c.args.words.now
state c = good c.args.region c.args.words.now (search rules) (search rules) (search rules) (λ i. search rules) c.requires

-- the address starts a page
found : (c : In-Ok) → place c.args.region c.args.vaddr.0 ≡ Start (record { 0 = c.in-Ok.pfn })
found c = page-starts _ _ (sym c.page_of.ensures ∙ c.in-Ok.is)

pub put_at-requires : goal.put_at-requires
put_at-requires c = let s = (goal.at.put_at-requires c).In-Ok in put-ok (state s) _ (start-in c.args.region _ _ (found s))

pub returns : goal.returns
unfolding at_page
returns c =
    let s = (goal.at.returns c).In-Ok in
    let got = c.put_at.ensures in
    (λ i. leaves (got.answers i) (got.leaves i)) ∙ (rw (found s) at (put-code (state s) c.args.vaddr.0))
