-- What the inner functions of the calls answer and leave, by the steps on a state.
use Rattle.std.specs.Prelude.{ℕ, ◌<◌, ◌≡◌, [], cond, Option, Some, None, Result, Ok, Err}
use Rattle.words.specs.Place.{address_at}
use Rattle.words.specs.declared.place.PageAt.{PageAt}
use Rattle.words.specs.declared.place.PageAt.TheVariants.{Start, Within}
use Rattle.words.specs.declared.word.PageInfo.{PageInfo}
use Rattle.buddy.specs.Heap.{is_free}
use Rattle.pages.specs.Meaning.{means, if_head}
use Rattle.pages.specs.Info.{allocated_info}
use Rattle.region.specs.State.{State, if_at}
use Rattle.region.specs.Steps.{grant_page}
use Rattle.region.specs.Steps as Steps
use Rattle.sound_calls.specs.Answer.{no, grant, Effect, effect_of}
use Rattle.sound_calls.specs.declared.Answer.{Answer}
use Rattle.sound_calls.specs.declared.AllocError.TheVariants.{OutOfMemory, InvalidHeapAddress}
use Rattle.sound_calls.specs.declared.AllocError.{AllocError}
use Rattle.words.specs.declared.place.VirtAddr.{VirtAddr}

-- a page's address as an answer
abbrev pub address_grant : Option VirtAddr → Result VirtAddr AllocError
address_grant (Some a) = Ok a
address_grant None = Err OutOfMemory

-- the page that an address starts, from where it lies in the region; refusal 7 if it starts none (R7)
abbrev pub start_page : VirtAddr → PageAt → Result ℕ AllocError
start_page a (Start p) = Ok p.0
start_page a (Within p) = Err (InvalidHeapAddress a)
start_page a PageAt.Outside = Err (InvalidHeapAddress a)

-- the order of the block that a free takes at a word
abbrev pub freeable : Option PageInfo → Option ℕ
freeable d = if_head (means d) (λ k o. cond (is_free k) None (Some o)) None

-- a word that decodes has an order
pub record SaidOk (d : Option PageInfo) : Type 0 where
  pub order : (o : ℕ) → d ≡ Some (allocated_info o) → o < 6

-- a state as a result
abbrev pub leaves : Answer → State → Effect
leaves t s = effect_of t s.reg s.ws

-- a grant of a block that is what i says
unfoldable pub code_grants : ℕ → PageInfo → State → Effect
code_grants o i s =
    if_at (grant_page o s)
    (λ p. leaves (grant (address_grant (address_at s.reg.start_virt.0 s.reg.page_count p))) (Steps.grant o i s))
    (leaves (no 6 []) (Steps.grant o i s))
