-- Pages and addresses of a sound region: a page that an address names has a word, and the address of a page is written in 64 bits.
use Rattle.common.specs.Kit.{ℕ, ◌+◌, ◌*◌, ◌<◌, ◌≡◌, refl, ap, subst, ◌≢◌, List, [], ◌∷◌, arith}
use Rattle.std.specs.Prelude.{Ok}
use Rattle.words.specs.Place.{page_at, address_at}
use Rattle.words.specs.declared.place.PageNumber.{PageNumber}
use Rattle.words.specs.declared.place.VirtAddr.{VirtAddr}
use Rattle.words.specs.declared.place.PageAt.{PageAt}
use Rattle.words.specs.declared.place.PageAt.TheVariants.{Start, Within}
use Rattle.words.proofs.PlaceLaws.{Starts, starts, address-of}
use Rattle.buddy.proofs.Refill.{never}
use Rattle.pages.specs.Said.{said}
use Rattle.region.specs.Sound.{Sound}
use Rattle.region.specs.declared.HeapMemoryRegion.{HeapMemoryRegion}
use Rattle.sound_calls.specs.Answer.{ok, no, grant, Effect}
use Rattle.sound_calls.specs.Promise.{kept, layout_of, at_page, on_page, looked_up, looks_up}
use Rattle.sound_calls.specs.Code.{address_grant, start_page}

-- where an address lies in a region
abbrev pub place : HeapMemoryRegion → ℕ → PageAt
place r a = page_at r.start_virt.0 r.page_count a

pub start-in : (r : HeapMemoryRegion) (a : ℕ) (p : PageNumber) → place r a ≡ Start p → p.0 < r.page_count
start-in r a p e = (subst (Starts r.start_virt.0 r.page_count a) e (starts _ _ a)).0

-- the page that a call finds is the one that its address starts
pub page-starts : (a : VirtAddr) (x : PageAt) {n : ℕ} → start_page a x ≡ Ok n → x ≡ Start (record { 0 = n })
page-starts a (Start p) {n} e =
    let same : p.0 ≡ n = cc e in
    ap (λ m. Start (record { 0 = m })) same
page-starts a (Within p) e = absurd (cc e)
page-starts a PageAt.Outside e = absurd (cc e)

-- the page that a lookup reads: it rounds down to one
pub record Names (r : HeapMemoryRegion) (ws : List ℕ) (a : ℕ) (p : PageNumber) : Type 0 where
  pub page : p.0 < r.page_count
  pub looked : layout_of a (said ws p.0) ≡ looks_up r ws a

module _ (r : HeapMemoryRegion) (ws : List ℕ) (a : ℕ) (p : PageNumber) where
  pub start-names : place r a ≡ Start p → Names r ws a p
  unfolding looks_up looked_up
  start-names e = record { page = start-in r a p e; looked = rw e }

  pub within-names : place r a ≡ Within p → Names r ws a p
  unfolding looks_up looked_up
  within-names e = record { page = subst (Starts r.start_virt.0 r.page_count a) e (starts _ _ a); looked = rw e }

pub address-told : {r : HeapMemoryRegion} {ws : List ℕ} → Sound r ws → (p : ℕ) → p < r.page_count
    → grant (address_grant (address_at r.start_virt.0 r.page_count p)) ≡ ok ((r.start_virt.0 + 4096 * p) ∷ [])
address-told {r} sound p l =
    let s = r.start_virt.0 in
    let e : s + p * 4096 ≡ s + 4096 * p = omega arith in
    rw (address-of s r.page_count p l (omega (arith, sound.limits.ends)), e)

-- the ways through a call on the page at an address
module _ (r : HeapMemoryRegion) (ws : List ℕ) (a : ℕ) where
  pub by_place : (f : ℕ → Effect) (P : Effect → Type 0) → ((p : PageNumber) → place r a ≡ Start p → P (f p.0))
      → (((p : PageNumber) → place r a ≢ Start p) → P (kept r ws (no 7 (a ∷ [])))) → P (on_page r ws a f)
  unfolding at_page
  by_place f P on off = go (place r a) refl
    where
      go : (x : PageAt) → place r a ≡ x → P (at_page r ws a x f)
      go (Start p) e = on p e
      go (Within p) e = off (λ q d. never (cc))
      go PageAt.Outside e = off (λ q d. never (cc))

  -- two calls that agree on the region's pages
  pub on_same : (f g : ℕ → Effect) → ((p : ℕ) → p < r.page_count → f p ≡ g p) → on_page r ws a f ≡ on_page r ws a g
  unfolding at_page
  on_same f g same = go (place r a) (starts _ _ a)
    where
      go : (x : PageAt) → Starts r.start_virt.0 r.page_count a x → at_page r ws a x f ≡ at_page r ws a x g
      go (Start p) s = same p.0 s.0
      go (Within p) s = refl
      go PageAt.Outside s = refl
