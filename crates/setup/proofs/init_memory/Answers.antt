-- The calls one after the other, each safe by the law of set-up.
use Rattle.common.specs.Kit.{arith}
use Rattle.region.proofs.Limits.{pages-small}
use Rattle.setup.specs.Steps.{blank}
use Rattle.setup.proofs.Init.{init-image}
use Rattle.setup.proofs.init_memory.Goals as goal

pub alloc_pages-alloc_pages-requires : goal.alloc_pages-alloc_pages-requires
alloc_pages-alloc_pages-requires c = omega (arith, pages-small _ c.requires.most)

pub grow_span-requires : goal.grow_span-requires
unfolding blank
grow_span-requires c =
    rw (c.bare_region.ensures, c.fill_words-2.ensures, c.fill_words.ensures, c.alloc_pages-alloc_pages.ensures)
    (init-image _ _ _ _ c.requires).ok
