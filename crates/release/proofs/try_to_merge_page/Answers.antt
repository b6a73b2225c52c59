-- What is found at the buddy decides whether the two join.
use Rattle.common.specs.Kit.{◌≡◌, sym, ap, ◌∙◌, true, arith, rules, eq-eqb, ne_eqb, Some}
use Rattle.words.specs.declared.word.PageInfo.TheVariants.{Free}
use Rattle.pages.specs.Said.{said}
use Rattle.pages.specs.Meaning.{free_order}
use Rattle.pages.proofs.Patterns.{through, not_free}
use Rattle.region.specs.State.{st}
use Rattle.region.specs.Steps.{neighbor, joins, join}
use Rattle.release.proofs.Joins.{mate, joins-none, joins_at, joins-other, kept}
use Rattle.release.proofs.try_to_merge_page.Goals as goal
use Rattle.release.proofs.try_to_merge_page.Goals.{In-Some, In-Some-Free, Else-fi-order}

-- a buddy was found
found : (c : In-Some) → neighbor c.args.region.page_count c.args.pfn c.args.order ≡ Some c.in-Some.neighbor_pfn
found c = sym c.compound_neighbor.ensures ∙ c.in-Some.is

-- it is free, and its word tells its order
tells : (c : In-Some-Free) → free_order (said c.args.words.now c.in-Some.neighbor_pfn) ≡ c.in-Some-Free.fi.order
tells c = ap free_order (through {j = Free c.in-Some-Free.fi} c.read_page_info.ensures c.in-Some-Free.is (search rules))

-- it is the order of the block: the two join
joined :
    (c : Else-fi-order) →
    neighbor c.args.region.page_count c.args.pfn c.args.order ≡ Some c.in-Some.neighbor_pfn →
    free_order (said c.args.words.now c.in-Some.neighbor_pfn) ≡ c.in-Some-Free.fi.order →
    joins c.args.pfn c.args.order (st c.args.region c.args.words.now) ≡ true
joined c f t = joins_at _ _ _ _ f t ∙ eq-eqb _ _ c.if-fi-order.false

pub returns-in_default : goal.returns-in_default
returns-in_default c = kept _ _ _ (joins-none _ _ _ (sym c.compound_neighbor.ensures ∙ c.in_default.is))

pub read_page_info-requires : goal.read_page_info-requires
read_page_info-requires c = omega (arith, (mate (found (goal.at.read_page_info-requires c).In-Some)).inside, c.requires.words)

pub returns-in_default-read_page_info : goal.returns-in_default-read_page_info
returns-in_default-read_page_info c =
    let told = sym c.read_page_info.ensures ∙ c.in_default-read_page_info.is in
    kept _ _ _
    (joins-other _ _ _ _ (found (goal.at.returns-in_default-read_page_info c).In-Some)
    (ap free_order told ∙ not_free c.in_default-read_page_info.field-0 (λ fi is. search rules)))

pub returns-in_default-read_page_info-2 : goal.returns-in_default-read_page_info-2
returns-in_default-read_page_info-2 c =
    let no = sym c.read_page_info.ensures ∙ c.in_default-read_page_info.is in
    kept _ _ _ (joins-other _ _ _ _ (found (goal.at.returns-in_default-read_page_info-2 c).In-Some) (ap free_order no))

pub returns-then-fi-order : goal.returns-then-fi-order
returns-then-fi-order c =
    let at = goal.at.returns-then-fi-order c in
    kept _ _ _ (joins_at _ _ _ _ (found at.In-Some) (tells at.In-Some-Free) ∙ ne_eqb _ _ c.if-fi-order.true)

pub allocate_pfn-pulled-requires : goal.allocate_pfn-pulled-requires
allocate_pfn-pulled-requires c =
    let at = goal.at.allocate_pfn-pulled-requires c in
    rw (mate (found at.In-Some)).is (c.requires.pulled (joined at.Else-fi-order (found at.In-Some) (tells at.In-Some-Free)))

pub merge_pages-merged-requires : goal.merge_pages-merged-requires
merge_pages-merged-requires c =
    let at = goal.at.merge_pages-merged-requires c in
    rw (c.allocate_pfn-pulled.ensures.leaves, (mate (found at.In-Some)).is) (c.requires.merged (joined at.Else-fi-order (found at.In-Some) (tells at.In-Some-Free)))

pub returns : goal.returns
unfolding join
returns c =
    let at = goal.at.returns c in
    let got = c.merge_pages-merged.ensures in
    let q = (mate (found at.In-Some)).is in
    simp (joined at.Else-fi-order (found at.In-Some) (tells at.In-Some-Free))
    (record { answers = rw (got.answers, q); leaves = rw (got.leaves, c.allocate_pfn-pulled.ensures.leaves, q) })
