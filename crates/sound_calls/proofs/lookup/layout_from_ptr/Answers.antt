-- The place that `get_pfn` answers picks the case.
use Rattle.common.specs.Kit.{◌≡◌, sym, ◌∙◌, ◌⊎◌, ⊎_elim, arith, rules}
use Rattle.words.specs.declared.place.PageNumber.{PageNumber}
use Rattle.words.specs.declared.place.PageAt.TheVariants.{Start, Within}
use Rattle.sound_calls.proofs.Typing.{good}
use Rattle.sound_calls.proofs.Places.{Names, start-names, within-names}
use Rattle.sound_calls.proofs.Heads.{said_ok}
use Rattle.sound_calls.proofs.lookup.layout_from_ptr.Goals as goal
use Rattle.sound_calls.proofs.lookup.layout_from_ptr.Goals.{Joined-place, in-Start, in-Start-2}

-- a page that the address starts, or lies in
named :
    (c : Joined-place) {p : PageNumber} →
    (c.get_pfn-place.result ≡ Start p) ⊎ (c.get_pfn-place.result ≡ Within p) →
    Names c.args.region c.args.words.now c.args.vaddr.0 p
named c e =
    let at = sym c.get_pfn-place.ensures in
    ⊎_elim (λ h. start-names _ _ _ _ (at ∙ h)) (λ h. within-names _ _ _ _ (at ∙ h)) e

-- where the arms meet, the page is the one that the address names
names : (c : Joined-place) → Names c.args.region c.args.words.now c.args.vaddr.0 c.match-place.page
names c = elim c.match-place.branch [
  | in-Start w ↦ rw w.page-is (named c w.in-Start.is)
  | in-Start-2 w ↦ rw w.page-is (named c w.in-Start.is)
]

pub read_page_info-requires : goal.read_page_info-requires
read_page_info-requires c =
    omega (arith, c.requires.limits.long, (names (goal.at.read_page_info-requires c).Joined-place).page)

pub layout_of-requires : goal.layout_of-requires
layout_of-requires c =
    let state = good c.args.region c.args.words.now (search rules) (search rules) (search rules) (λ i. search rules) c.requires in
    let named = names (goal.at.layout_of-requires c).Joined-place in
    rw c.read_page_info.ensures (said_ok state _ (omega (arith, c.requires.limits.long, named.page)))

pub returns : goal.returns
returns c = c.layout_of.ensures ∙ rw c.read_page_info.ensures (names (goal.at.returns c).Joined-place).looked
