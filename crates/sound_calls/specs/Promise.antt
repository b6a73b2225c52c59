-- What each request does on sound input: the checks in the order of the refusals' numbers (R50), then the model's rule. Total functions that compute.
use Rattle.std.specs.Prelude.{ℕ, ◌+◌, ◌-◌, ◌*◌, ◌^◌, Bool, false, cond, List, [], ◌∷◌, ltb, not, Option}
use Rattle.words.specs.Place.{page_at}
use Rattle.words.specs.declared.place.PageAt.{PageAt}
use Rattle.words.specs.declared.place.PageAt.TheVariants.{Start, Within}
use Rattle.buddy.specs.Runs.{first}
use Rattle.buddy.specs.Heap.{Kind, free, used, slab, file, is_free, good_item, Heap}
use Rattle.buddy.specs.Rules.{Grant, refused, granted, allocate, free_page, file_page, slab_page, recount, put_to}
use Rattle.buddy.specs.Request.{Request, for_block, for_file, for_slab, on, Use, to_free, to_get, to_put}
use Rattle.pages.specs.Said.{said}
use Rattle.pages.specs.Meaning.{means, if_head, if_file}
use Rattle.region.specs.Layout.{managed}
use Rattle.refine.specs.Image.{heap_of, region_of, words_of}
use Rattle.region.specs.declared.HeapMemoryRegion.{HeapMemoryRegion}
use Rattle.sound_calls.specs.Answer.{ok, no, Effect, effect_of}
use Rattle.sound_calls.specs.declared.Answer.{Answer}
use Rattle.words.specs.declared.word.PageInfo.{PageInfo}

-- an answer that changes nothing: "a refusal changes no word and no field" (R51)
abbrev pub kept : HeapMemoryRegion → List ℕ → Answer → Effect
kept r ws t = effect_of t r ws

-- the region shows another heap
abbrev pub became : HeapMemoryRegion → Heap → Answer → Effect
became r h t = effect_of t (region_of r h) (words_of r h)

-- what a free takes, any head of a block that is out: "File and SlabPage are freed as order 0, a File whatever its count" (C51)
abbrev pub may_free : Option PageInfo → Bool
may_free d = if_head (means d) (λ k o. not (is_free k)) false

-- "2^order times 4,096 and 4,096 for Allocated, item size twice for SlabPage"; refusal 9 for all else (C80, R9)
abbrev pub layout_as : ℕ → Kind → ℕ → Answer
layout_as a free o = no 9 (a ∷ [])
layout_as a used o = ok ((2 ^ o * 4096) ∷ 4096 ∷ [])
layout_as a (slab i) o = ok (i ∷ i ∷ [])
layout_as a (file n) o = no 9 (a ∷ [])

abbrev pub layout_of : ℕ → Option PageInfo → Answer
layout_of a d = if_head (means d) (layout_as a) (no 9 (a ∷ []))

-- the largest count that a word has
abbrev pub max_count : ℕ
max_count = 2 ^ 60 - 1

module _ (r : HeapMemoryRegion) (ws : List ℕ) where
  -- "Answer: its address" (C41); refusal 6 (R6) for want of memory
  unfoldable pub grants : ℕ → Grant → Effect
  grants o refused = kept r ws (no 6 [])
  grants o (granted h c) = became r h (ok ((r.start_virt.0 + 4096 * first o c) ∷ []))

  -- refusal 12 after 6: an item size that no slab page may have (R12)
  unfoldable pub slab_grants : ℕ → Grant → Effect
  slab_grants i refused = grants 0 refused
  slab_grants i (granted h c) = cond (good_item i) (grants 0 (granted h c)) (kept r ws (no 12 (i ∷ [])))

  -- refusal 7, with the address as it was given: outside the region, or no multiple of 4,096 from the start; else what f makes of the page (R7)
  unfoldable pub at_page : ℕ → PageAt → (ℕ → Effect) → Effect
  at_page a (Start p) f = f p.0
  at_page a (Within p) f = kept r ws (no 7 (a ∷ []))
  at_page a PageAt.Outside f = kept r ws (no 7 (a ∷ []))

  abbrev pub on_page : ℕ → (ℕ → Effect) → Effect
  on_page a f = at_page a (page_at r.start_virt.0 r.page_count a) f

  -- FREE, GET and PUT of page p, at address a (C50, C61, C62). Refusal 8: a boot page (R8); refusal 9: Free, Compound, Reserved (R9); refusal 10: no
  -- File (R10); refusal 11: a get of a full count (R11)
  unfoldable pub does_at : Use → ℕ → ℕ → Effect
  does_at to_free a p =
      cond (ltb p r.allocated) (kept r ws (no 8 (a ∷ [])))
      (cond (may_free (said ws p)) (became r (free_page (managed r ws) (heap_of r ws) p) (ok []))
      (kept r ws (no 9 (a ∷ []))))
  does_at to_get a p =
      if_file (said ws p)
      (λ n. cond (ltb n max_count)
      (became r (recount (heap_of r ws) p (n + 1)) (ok ((n + 1) ∷ [])))
      (kept r ws (no 11 (a ∷ []))))
      (kept r ws (no 10 (a ∷ [])))
  does_at to_put a p =
      if_file (said ws p)
      (λ n. became r (put_to (managed r ws) (heap_of r ws) p (n - 1)) (ok ((n - 1) ∷ [])))
      (kept r ws (no 10 (a ∷ [])))

  -- WHAT A REQUEST DOES. Refusal 5: order 6 or above (R5)
  unfoldable pub does : Request → Effect
  does (for_block o) = cond (ltb o 6) (grants o (allocate (heap_of r ws) o)) (kept r ws (no 5 (o ∷ [])))
  does for_file = grants 0 (file_page (heap_of r ws))
  does (for_slab i) = slab_grants i (slab_page (heap_of r ws) i)
  does (on u a) = on_page a (does_at u a)

  -- LOOKUP: "lookup rounds down to the page" (C80)
  unfoldable pub looked_up : ℕ → PageAt → Answer
  looked_up a (Start p) = layout_of a (said ws p.0)
  looked_up a (Within p) = layout_of a (said ws p.0)
  looked_up a PageAt.Outside = no 7 (a ∷ [])

  unfoldable pub looks_up : ℕ → Answer
  looks_up a = looked_up a (page_at r.start_virt.0 r.page_count a)
