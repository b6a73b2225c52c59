-- The pages are few.
use Rattle.audit.proofs.Limit.{limits-few, limits-within}
use Rattle.audit.proofs.stocks_good.Goals as goal

pub alloc_pages-requires : goal.alloc_pages-requires
alloc_pages-requires c = limits-few c.requires

pub survey-requires : goal.survey-requires
survey-requires c = rw c.alloc_pages.ensures (limits-within _ c.requires)
