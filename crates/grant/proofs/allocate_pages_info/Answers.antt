-- The page that is taken has a word.
use Rattle.common.specs.Kit.{sym, ◌∙◌}
use Rattle.grant.proofs.Steps.{taken-inside}
use Rattle.grant.proofs.allocate_pages_info.Goals as goal

pub write_page_info-requires : goal.write_page_info-requires
write_page_info-requires c =
    let some = sym c.get_next_page-taken.ensures.answers ∙ c.in-Some.is in
    rw c.get_next_page-taken.auto.words (taken-inside (rw c.refill_page_list-filled.ensures c.requires.take) some)
