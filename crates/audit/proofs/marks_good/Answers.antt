-- The pages are few.
use Rattle.audit.proofs.Limit.{limits-few}
use Rattle.audit.proofs.marks_good.Goals as goal

pub alloc_pages-requires : goal.alloc_pages-requires
alloc_pages-requires c = limits-few c.requires
