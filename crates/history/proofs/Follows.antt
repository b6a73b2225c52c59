-- What a public call does on sound record and words: nothing, and nothing is written down; or one call of the model, and what is written down
-- is what the model writes, with addresses for pages.
use Rattle.common.specs.Kit.{ℕ, ◌+◌, ◌*◌, ◌≤◌, ◌≡◌, refl, ap, subst, ◌≢◌, Bool, true, List, [], map, eqb, arith, ne_eqb, Option, Some, None}
use Rattle.common.proofs.Tests.{by-test}
use Rattle.words.specs.declared.place.PageAt.{PageAt}
use Rattle.words.specs.declared.place.PageAt.TheVariants.{Start, Within}
use Rattle.words.specs.declared.word.PageInfo.TheVariants.{Free, Allocated, Slab, Compound, File, Reserved}
use Rattle.words.proofs.PlaceLaws.{starts}
use Rattle.words.proofs.PlaceLaws as Place
use Rattle.buddy.specs.Heap.{Kind, Heap}
use Rattle.buddy.specs.History as Model
use Rattle.buddy.specs.Request.{Request, for_block, for_file, for_slab, on, to_free, to_get, to_put, moved}
use Rattle.buddy.specs.History.{ModelAnswer, denied, done, page, counted, Outcome, outcome}
use Rattle.buddy.proofs.Refill.{never}
use Rattle.buddy.proofs.Calls.{Asks, plain, filed, slabbed, Called, refuse as refused, grant, return, more, less, last, called as answered}
use Rattle.pages.specs.Said.{said}
use Rattle.refine.specs.Image.{heap_of}
use Rattle.region.specs.declared.HeapMemoryRegion.{HeapMemoryRegion}
use Rattle.refine.specs.Fit.{SoundFit}
use Rattle.region.specs.Layout.{managed}
use Rattle.audit.specs.Check.{sound_b}
use Rattle.audit.proofs.Sound.{sound-decides}
use Rattle.sound_calls.specs.Answer.{ok, Effect}
use Rattle.sound_calls.specs.declared.Answer.{Answer}
use Rattle.sound_calls.specs.Promise.{kept, became, layout_of, does, looked_up, looks_up}
use Rattle.sound_calls.proofs.SoundInput.{SoundInput, fit}
use Rattle.sound_calls.proofs.Places.{place}
use Rattle.sound_calls.proofs.Requests.{Starts, Refuses, order, memory, address, boot, type, no-file, full, item, Tells, tells-done, tells-page, tells-count, Way, refuse, succeed}
use Rattle.sound_calls.proofs.Outcomes.{outcomes}
use Rattle.heap.specs.Promise.{promise, lookup_promise, report_promise, audit_promise}
use Rattle.history.specs.Calls.{Call, request, lookup, report, audit, called, written, noted}
use Rattle.history.proofs.Renamed.{renamed}
use Rattle.words.specs.declared.word.PageInfo.{PageInfo}

-- the address of page p
abbrev pub address_in : HeapMemoryRegion → ℕ → ℕ
address_in r p = r.start_virt.0 + 4096 * p

-- the answers that a call of the model has, but a refusal
pub data Answers : Request → ModelAnswer → Type 0 where
  answers-page : {x : Request} {o : ℕ} {k : Kind} {p : ℕ} → Asks x o k → Answers x (page p)
  answers-done : {p : ℕ} → Answers (on to_free p) done
  answers-get : {p n : ℕ} → Answers (on to_get p) (counted n)
  answers-put : {p n : ℕ} → Answers (on to_put p) (counted n)

answers : {M : ℕ → Bool} {n : ℕ} {h : Heap} {x : Request} {y : Outcome} → Called M n h x y → y.answer ≢ denied
    → Answers x y.answer
answers refused n = absurd (n refl)
answers (grant a _ _) n = answers-page a
answers (return _ _) n = answers-done
answers (more _) n = answers-get
answers (less _) n = answers-put
answers (last _ _) n = answers-put

pub start-address : (r : HeapMemoryRegion) (a p : ℕ) → place r a ≡ Start (record { 0 = p }) → a ≡ address_in r p
start-address r a p e = let s = subst (Place.Starts _ _ a) e (starts _ _ a) in omega (arith, s.1)

-- what is told, and written down, of a call of the model that is not denied
module _ {r : HeapMemoryRegion} {ws : List ℕ} where
  tells-number : {a : ModelAnswer} {t : Answer} → Tells r ws a t → t.number ≡ 0
  tells-number tells-done = refl
  tells-number tells-page = refl
  tells-number tells-count = refl

  tells-said : {a : ModelAnswer} {t : Answer} → Tells r ws a t → a ≢ denied
  tells-said tells-done e = never (cc)
  tells-said tells-page e = never (cc)
  tells-said tells-count e = never (cc)

  written-told : (x : Request) (p : ℕ) {a : ModelAnswer} {t : Answer} → Starts r ws x p → Answers (moved p x) a → Tells r ws a t
      → written x t ≡ map (renamed (address_in r)) (Model.written (moved p x) a)
  unfolding Model.written
  written-told (for_block o) p s (answers-page (plain _)) tells-page = refl
  written-told for_file p s (answers-page filed) tells-page = refl
  written-told (for_slab i) p s (answers-page (slabbed _)) tells-page = refl
  written-told (on to_free a) p s (answers-page asks) _ = elim asks [ ]
  written-told (on to_free a) p s answers-done tells-done = rw (start-address r a p s)
  written-told (on to_get a) p s (answers-page asks) _ = elim asks [ ]
  written-told (on to_get a) p s answers-get tells-count = rw (start-address r a p s)
  written-told (on to_put a) p s (answers-page asks) _ = elim asks [ ]
  written-told (on to_put a) p s answers-put (tells-count {n}) = rw (start-address r a p s) (by-test (eqb n 0) (λ e. rw e) (λ e. rw e))

-- a refusal has a number, and nothing is written down of it
refuses-number : {r : HeapMemoryRegion} {ws : List ℕ} {x : Request} {t : Answer} → Refuses r ws x t → 5 ≤ t.number
refuses-number (order _) = omega arith
refuses-number (memory _ _ _) = omega arith
refuses-number (address _) = omega arith
refuses-number (boot _ _ _) = omega arith
refuses-number (type _ _ _) = omega arith
refuses-number (no-file _ _ _ _) = omega arith
refuses-number (full _ _ _) = omega arith
refuses-number (item _ _ _ _) = omega arith

unwritten : (x : Request) (t : Answer) → t.number ≢ 0 → written x t ≡ []
unwritten x t n = rw (ne_eqb t.number 0 n)

layout-told : (a : ℕ) (d : Option PageInfo) → (layout_of a d).number ≢ 4
layout-told a (Some (Free fi)) = omega arith
layout-told a (Some (Allocated ai)) = omega arith
layout-told a (Some (Slab si)) = omega arith
layout-told a (Some (Compound ci)) = omega arith
layout-told a (Some (File fi)) = omega arith
layout-told a (Some (Reserved ri)) = omega arith
layout-told a None = omega arith

-- what a call answers and leaves
pub data Follows (r : HeapMemoryRegion) (ws : List ℕ) (c : Call) : Effect → Type 0 where
  stays : (t : Answer) → t.number ≢ 4 → noted c t ≡ [] → Follows r ws c (kept r ws t)
  moves : (t : Answer) {g : Heap} (x : Request) (a : ModelAnswer) → t.number ≢ 4 → Model.call (managed r ws) (heap_of r ws) x ≡ outcome g a
      → SoundFit (managed r ws) r g → noted c t ≡ map (renamed (address_in r)) (Model.written x a) → Follows r ws c (became r g t)

module _ {r : HeapMemoryRegion} {ws : List ℕ} (good : SoundInput r ws) where
  sound-true : sound_b r ws ≡ true
  sound-true = (sound-decides r ws).back good.sound

  pub does-promised : (x : Request) → promise r ws x ≡ does r ws x
  unfolding promise
  does-promised x = rw sound-true

  said-answers : {x : Request} {g : Heap} {a : ModelAnswer} {t : Answer} → Model.call (managed r ws) (heap_of r ws) x ≡ outcome g a → Tells r ws a t
      → Answers x a
  said-answers {x} e tells = answers (rw e at (answered (fit good).fits.within (heap_of r ws) (fit good).sound x)) (tells-said tells)

  -- a request that succeeds is a call of the model, and what is told of it is the model's answer
  pub by-success : {P : Type 0} (x : Request) (vs : List ℕ) → (promise r ws x).answer ≡ ok vs
      → ((p : ℕ) (a : ModelAnswer) (t : Answer) → Starts r ws x p → (Model.call (managed r ws) (heap_of r ws) (moved p x)).answer ≡ a
      → Answers (moved p x) a → Tells r ws a t → t ≡ ok vs → P) → P
  by-success {P} x vs e then = go (does r ws x) (outcomes good x) (rw (does-promised x) at e)
    where
      go : (y : Effect) → Way r ws x y → y.answer ≡ ok vs → P
      go _ (refuse f) e = absurd (omega (arith, refuses-number f, ap (λ (t : Answer). t.number) e))
      go _ (succeed p g a {t} s c tells f) e = then p a t s (ap (λ (y : Outcome). y.answer) c) (said-answers c tells) tells e

  request-follows : (x : Request) → Follows r ws (request x) (promise r ws x)
  request-follows x = rw (does-promised x) (go (does r ws x) (outcomes good x))
    where
      go : (y : Effect) → Way r ws x y → Follows r ws (request x) y
      go _ (refuse {t} f) = let n = refuses-number f in stays t (omega arith) (unwritten x t (omega arith))
      go _ (succeed p g a {t} s e tells f) =
          let n = tells-number tells in
          moves t (moved p x) a (omega arith) e f (written-told x p s (said-answers e tells) tells)

  looks : (a : ℕ) (x : PageAt) → (looked_up r ws a x).number ≢ 4
  unfolding looked_up
  looks a (Start p) = layout-told a (said ws p.0)
  looks a (Within p) = layout-told a (said ws p.0)
  looks a PageAt.Outside = omega arith

  pub call-follows : (c : Call) → Follows r ws c (called r ws c)
  unfolding lookup_promise report_promise audit_promise looks_up
  call-follows (request x) = request-follows x
  call-follows (lookup a) = rw sound-true (stays _ (looks a _) refl)
  call-follows report = rw sound-true (stays (ok []) (omega arith) refl)
  call-follows audit = rw sound-true (stays (ok []) (omega arith) refl)
