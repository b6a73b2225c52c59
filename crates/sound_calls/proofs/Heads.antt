-- What the word of a page of a sound region tells of the heap: a page that may be freed heads a block out, a File heads a file page of its
-- count, and no other page does.
use Rattle.common.specs.Kit.{ℕ, ◌≤◌, ◌<◌, ◌≡◌, refl, sym, ap, ◌∙◌, ◌≢◌, by_cases, true, false, List, T, length, get_or, ℕ_discrete, arith, ltb-true, cond, not, Option, Some, None}
use Rattle.common.proofs.Tests.{by-test}
use Rattle.buddy.specs.Runs.{start, Head}
use Rattle.buddy.specs.Heap.{Kind, free, used, slab, file, is_free, Fits, Tiled, Heap}
use Rattle.buddy.proofs.Tags.{used≢free}
use Rattle.buddy.proofs.Refill.{never}
use Rattle.buddy.proofs.Pages.{slab≢free, file≢free, OutHead, FilePage, file-page}
use Rattle.pages.specs.Info.{allocated_info, compound_info, file_info, reserved_info}
use Rattle.pages.specs.Said.{said}
use Rattle.pages.specs.Meaning.{Meaning, means, if_head, kind_said}
use Rattle.region.specs.Layout.{end_of, managed}
use Rattle.region.specs.Sound.{Sound}
use Rattle.region.specs.State.{if_at}
use Rattle.refine.specs.Image.{head_info, heap_of}
use Rattle.region.specs.declared.HeapMemoryRegion.{HeapMemoryRegion}
use Rattle.refine.proofs.Shown.{head-zero}
use Rattle.refine.proofs.Managed.{by-page}
use Rattle.refine.proofs.Meanings.{head-kind}
use Rattle.refine.proofs.WordsSay.{Says, shows-say, says-head, says-tail}
use Rattle.refine.proofs.OneImage.{said_in}
use Rattle.refine.proofs.Law.{read-sound, read-shows}
use Rattle.sound_calls.specs.Promise.{may_free}
use Rattle.sound_calls.specs.Code.{freeable, SaidOk}
use Rattle.sound_calls.proofs.SoundInput.{SoundInput}
use Rattle.words.specs.declared.word.PageInfo.{PageInfo}

-- a word may be freed exactly when it tells an order to free
pub may_free_lem : (d : Option PageInfo) → may_free d ≡ if_at (freeable d) (λ o. true) false
may_free_lem d = go (means d)
  where
    go : (m : Meaning) → if_head m (λ k o. not (is_free k)) false ≡ if_at (if_head m (λ k o. cond (is_free k) None (Some o)) None) (λ o. true) false
    go (Meaning.head k o) = by-test (is_free k) (λ t. rw t) (λ t. rw t)
    go (Meaning.tail o) = refl
    go Meaning.none = refl

-- the head of a block tells its order, unless the block is free
module _ (next : ℕ) where
  head-freeable : (k : Kind) (o : ℕ) → Fits k o → k ≢ free → freeable (Some (head_info k o next)) ≡ Some o
  head-freeable free o f busy = absurd (busy refl)
  head-freeable used o f busy = refl
  head-freeable (slab i) o f busy = ap Some (sym f.0)
  head-freeable (file n) o f busy = ap Some (sym f.0)

  freeable-head : (k : Kind) (o j : ℕ) → Fits k o → freeable (Some (head_info k o next)) ≡ Some j → (k ≢ free) × (o ≡ j)
  freeable-head free o j f e = never (cc)
  freeable-head used o j f e = (used≢free, cc)
  freeable-head (slab i) o j f e = (slab≢free i, f.0 ∙ cc)
  freeable-head (file n) o j f e = (file≢free n, f.0 ∙ cc)

-- what page p of a region may say
pub data Page (r : HeapMemoryRegion) (ws : List ℕ) (h : Heap) (p : ℕ) : Option PageInfo → Type 0 where
  boot : p < r.allocated → Page r ws h p (Some (allocated_info 0))
  head : T (managed r ws p) → Head (h.at p).order p → (next : ℕ) → Page r ws h p (Some (head_info (h.at p).kind (h.at p).order next))
  tail : T (managed r ws p) → start (h.at p).order p ≢ p → Page r ws h p (Some (compound_info (h.at p).order))
  meta : end_of r ≤ p → Page r ws h p (Some reserved_info)

module _ {r : HeapMemoryRegion} {ws : List ℕ} (sound : Sound r ws) where
  abbrev h : Heap
  h = heap_of r ws

  tiled : Tiled (managed r ws) h.at
  tiled = (read-sound r ws sound).core.tiled

  says : Says (managed r ws) ws h
  says = shows-say (read-shows r ws sound)

  module _ (p : ℕ) where
    pub page-says : p < r.page_count → Page r ws h p (said ws p)
    page-says l = by-page r ws p
        (λ x. rw (sound.boot.each p (omega arith) x) (boot x))
        (λ m. by_cases (ℕ_discrete (start (h.at p).order p) p)
        (λ z. rw (says-head says p m z) (head m z _))
        (λ z. rw (says-tail says p m z) (tail m z)))
        (λ x. rw (sound.metadata.each p x l) (meta x))

    -- a page that may be freed as order o, and is no boot page, heads a block out of that order
    pub freeable-out : (o : ℕ) → r.allocated ≤ p → p < r.page_count → freeable (said ws p) ≡ Some o → OutHead (managed r ws) h.at o p
    freeable-out o a l = go (said ws p) (page-says l)
      where
        go : (d : Option PageInfo) → Page r ws h p d → freeable d ≡ Some o → OutHead (managed r ws) h.at o p
        go _ (boot x) e = absurd (omega arith)
        go _ (head m z next) e =
            let b = freeable-head next (h.at p).kind (h.at p).order o (tiled p m).fits e in
            record { managed = m; order = b.1; busy = b.0; head = rw b.1 at z }
        go _ (tail m z) e = never (cc)
        go _ (meta x) e = never (cc)

    pub out-freeable : (o : ℕ) → OutHead (managed r ws) h.at o p → freeable (said ws p) ≡ Some o
    out-freeable o out =
        rw (says-head says p out.managed (rw out.order out.head))
        (head-freeable _ (h.at p).kind (h.at p).order (tiled p out.managed).fits out.busy ∙ ap Some out.order)

    -- a page that says File is a file page of that count
    pub said-file : (n : ℕ) → p < r.page_count → said ws p ≡ Some (file_info n) → FilePage (managed r ws) h.at p n
    said-file n l = go (said ws p) (page-says l)
      where
        go : (d : Option PageInfo) → Page r ws h p d → d ≡ Some (file_info n) → FilePage (managed r ws) h.at p n
        go _ (boot x) e = never (cc)
        go _ (head m z next) e = file-page tiled m (sym (head-kind (h.at p).kind (h.at p).order next (tiled p m).fits) ∙ ap kind_said e)
        go _ (tail m z) e = never (cc)
        go _ (meta x) e = never (cc)

    pub file-said : (n : ℕ) → FilePage (managed r ws) h.at p n → said ws p ≡ Some (file_info n)
    file-said n f = rw f.is at (says-head says p f.managed (rw f.is (head-zero p)))

-- a word of 64 bits that says Allocated has an order
pub said_ok : {r : HeapMemoryRegion} {ws : List ℕ} → SoundInput r ws → (p : ℕ) → p < length ws → SaidOk (said ws p)
said_ok {ws = ws} good p l = record { order = λ o e. ltb-true o 6 (said_in (get_or ws p 0) (allocated_info o) (good.typed.bits p l) e) }
