-- Past the blanks there is nothing, or else a word.
use Rattle.common.specs.Kit.{sym, ◌∙◌, eqb-true, eqb-false}
use Rattle.parse.proofs.Words.{words-none, words-next}
use Rattle.parse.proofs.input.next_word.Goals as goal

pub returns-then-is_empty : goal.returns-then-is_empty
returns-then-is_empty c =
    words-none _ c.args.text.now c.run.ensures.count (eqb-true _ _ (sym c.is_empty.ensures ∙ c.if-is_empty.true))

pub returns : goal.returns
returns c =
    rw (c.split_at.ensures.front, c.split_at.ensures.back) (words-next _ c.args.text.now c.run.ensures.count _ (eqb-false _ _ (sym c.is_empty.ensures ∙ c.if-is_empty.false)) c.run-2.ensures.count)
