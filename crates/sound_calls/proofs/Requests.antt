-- The outcomes of a request to a sound region: it is refused, for the reason that its rule gives (R5 to R12), and changes nothing; or it is the
-- model's call, and leaves what shows the model's heap.
use Rattle.common.specs.Kit.{ℕ, ◌+◌, ◌*◌, ◌≤◌, ◌<◌, ◌≡◌, ◌≢◌, false, List, [], ◌∷◌}
use Rattle.words.specs.declared.place.PageNumber.{PageNumber}
use Rattle.words.specs.declared.place.PageAt.TheVariants.{Start}
use Rattle.buddy.specs.Heap.{good_item, Heap}
use Rattle.buddy.specs.Rules.{refused, granted, allocate}
use Rattle.buddy.specs.Request.{Use, to_free, to_get, Request, for_block, for_file, for_slab, on, moved, Asks}
use Rattle.buddy.specs.History.{ModelAnswer, done, page, counted, outcome, call}
use Rattle.buddy.proofs.Pages.{OutHead, FilePage}
use Rattle.refine.specs.Image.{heap_of}
use Rattle.region.specs.declared.HeapMemoryRegion.{HeapMemoryRegion}
use Rattle.refine.specs.Fit.{SoundFit}
use Rattle.region.specs.Layout.{managed}
use Rattle.sound_calls.specs.Answer.{ok, no, Effect}
use Rattle.sound_calls.specs.Promise.{kept, became, max_count}
use Rattle.sound_calls.specs.declared.Answer.{Answer}
use Rattle.sound_calls.proofs.Places.{place}

module _ (r : HeapMemoryRegion) (ws : List ℕ) where
  abbrev h : Heap
  h = heap_of r ws

  -- the address of a request, if it has one, starts page p
  abbrev pub Starts : Request → ℕ → Type 0
  Starts (for_block o) p = Unit {0}
  Starts for_file p = Unit {0}
  Starts (for_slab i) p = Unit {0}
  Starts (on u a) p = place r a ≡ Start (record { 0 = p })

  -- R5 to R12: what is told of a refusal, and when
  pub data Refuses : Request → Answer → Type 0 where
    order : {o : ℕ} → 6 ≤ o → Refuses (for_block o) (no 5 (o ∷ []))
    memory : {x : Request} {o : ℕ} → Asks x o → o ≤ 5 → allocate h o ≡ refused → Refuses x (no 6 [])
    address : {u : Use} {a : ℕ} → ((p : PageNumber) → place r a ≢ Start p) → Refuses (on u a) (no 7 (a ∷ []))
    boot : {a : ℕ} (p : ℕ) → Starts (on to_free a) p → p < r.allocated → Refuses (on to_free a) (no 8 (a ∷ []))
    type : {a : ℕ} (p : ℕ) → Starts (on to_free a) p → ((o : ℕ) → OutHead (managed r ws) h.at o p → ⊥) → Refuses (on to_free a) (no 9 (a ∷ []))
    no-file : {u : Use} {a : ℕ} (p : ℕ) → u ≢ to_free → Starts (on u a) p → ((n : ℕ) → FilePage (managed r ws) h.at p n → ⊥)
        → Refuses (on u a) (no 10 (a ∷ []))
    full : {a : ℕ} (p : ℕ) → Starts (on to_get a) p → FilePage (managed r ws) h.at p max_count → Refuses (on to_get a) (no 11 (a ∷ []))
    item : {i : ℕ} (g : Heap) (c : ℕ) → allocate h 0 ≡ granted g c → good_item i ≡ false → Refuses (for_slab i) (no 12 (i ∷ []))

  -- what is told of an answer of the model that is no refusal
  pub data Tells : ModelAnswer → Answer → Type 0 where
    tells-done : Tells done (ok [])
    tells-page : {p : ℕ} → Tells (page p) (ok ((r.start_virt.0 + 4096 * p) ∷ []))
    tells-count : {n : ℕ} → Tells (counted n) (ok (n ∷ []))

  pub data Way (x : Request) : Effect → Type 0 where
    refuse : {t : Answer} → Refuses x t → Way x (kept r ws t)
    succeed : (p : ℕ) (g : Heap) (a : ModelAnswer) {t : Answer} → Starts x p → call (managed r ws) h (moved p x) ≡ outcome g a → Tells a t
        → SoundFit (managed r ws) r g → Way x (became r g t)
