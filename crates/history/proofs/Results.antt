-- More that holds at every moment of every history: no page is granted that is still out, the counts are those of free blocks and of blocks
-- still out, and when all is back all is free.
use Rattle.std.specs.Prelude.{unwrap_or}
use Rattle.common.specs.Kit.{ℕ, ◌+◌, ◌≤◌, ◌<◌, ◌≡◌, refl, sym, ap, ◌∙◌, subst, ◌↔◌, ⊎_elim, Bool, List, [], ◌∷◌, mem-not_nil, T, length, get_or, length-map, arith}
use Rattle.common.specs.Numbers.{count}
use Rattle.common.proofs.Tests.{bool_iff}
use Rattle.common.proofs.Counts.{count_same}
use Rattle.words.specs.declared.place.VirtAddr.{VirtAddr}
use Rattle.buddy.specs.Runs.{cell, Head}
use Rattle.buddy.specs.History as Model
use Rattle.buddy.specs.Request.{Request, Asks, asks-block, asks-file, asks-slab, moved}
use Rattle.buddy.specs.History.{still_out, ModelAnswer, page}
use Rattle.buddy.specs.Demand as Of
use Rattle.buddy.specs.Demand.{pages_in}
use Rattle.buddy.proofs.Totals.{pages-same}
use Rattle.buddy.proofs.Demand3.{order_of, bound, grant-clear}
use Rattle.region.specs.Layout.{end_of, managed}
use Rattle.refine.specs.Image.{heap_of}
use Rattle.region.specs.declared.HeapMemoryRegion.{HeapMemoryRegion}
use Rattle.refine.proofs.Law.{read-shows}
use Rattle.sound_calls.specs.Answer.{ok}
use Rattle.sound_calls.specs.declared.Answer.{Answer}
use Rattle.sound_calls.proofs.Requests.{Tells, tells-page}
use Rattle.history.specs.Calls.{Call, Moment, after, Succeeded}
use Rattle.history.specs.Demand.{Managed, Free, Clear, Grants}
use Rattle.history.proofs.Frees.{frees, blocks-are, frees-are, page-clear}
use Rattle.history.proofs.Follows.{address_in, Answers, answers-page, by-success}
use Rattle.history.proofs.Mirror.{Mirror, mirror}
use Rattle.history.proofs.Mirrored.{mirrored, is-mirrored, kept-mirrored, out-mirrored, clear-to, clear-from}
use Rattle.history.proofs.Demand3.{demand3}

-- a request that is told a page
record Page (r : HeapMemoryRegion) (x : Request) (o : ℕ) (a : ModelAnswer) (t : Answer) : Type 0 where
  page : ℕ
  is : a ≡ Model.page page
  told : t ≡ ok (address_in r page ∷ [])
  order : order_of x ≡ o

module _ {m : Moment} {xs : List Request} (k : Mirror m xs) where
  abbrev r : HeapMemoryRegion
  r = m.region

  page-told : {x : Request} {o : ℕ} → Asks x o → (p : ℕ) {a : ModelAnswer} {t : Answer} → Answers (moved p x) a → Tells r m.words a t
      → Page r (moved p x) o a t
  page-told asks-block p (answers-page _) (tells-page {p = q}) = record { page = q; is = refl; told = refl; order = refl }
  page-told asks-file p (answers-page _) (tells-page {p = q}) = record { page = q; is = refl; told = refl; order = refl }
  page-told asks-slab p (answers-page _) (tells-page {p = q}) = record { page = q; is = refl; told = refl; order = refl }

  -- the model grants what is clear
  abbrev Clears : Model.Moment → Type 0
  Clears y = (x : Request) (p : ℕ) → (Model.call (managed r m.words) y.heap x).answer ≡ page p
      → Head (order_of x) p × Of.Clear (managed r m.words) y (order_of x) (cell (order_of x) p)

  clears : Clears (mirrored k)
  clears = subst Clears (is-mirrored k) (grant-clear r.allocated (end_of r) xs)

  mirror-grants : Grants m
  mirror-grants x o b asks e = by-success k.good x (b ∷ []) e (λ p a t s c ans tells told.
      let w = page-told asks p ans tells in
      let y = clears (moved p x) w.page (c ∙ w.is) in
      record {
        first = w.page;
        at = ap (λ (u : Answer). unwrap_or u.value 0) (sym told ∙ w.told);
        head = rw w.order at y.0;
        clear = clear-from k o _ (rw w.order at y.1);
      })

  abbrev below : (p : ℕ) → T (managed r m.words p) → p < end_of r
  below = bound r.allocated (end_of r)

  frees-shown : (o : ℕ) → o ≤ 5 → get_or r.free_pages o 0 ≡ length ((heap_of r m.words).list o)
  frees-shown = (read-shows r m.words k.good.sound).frees

  mirror-counts : (o : ℕ) → o ≤ 5 → get_or r.nr_pages o 0 ≡ get_or r.free_pages o 0 + length (still_out m.log o)
  unfolding heap_of
  mirror-counts o l = rw (frees-shown o l, out-mirrored k o, length-map) (blocks-are below (kept-mirrored k) o l)

  is-clear : (p : ℕ) → T (frees below (kept-mirrored k) p) ↔ Clear m 0 p
  is-clear p = let x = page-clear below (kept-mirrored k) p in (λ t. clear-from k 0 p (x.0 t), λ c. x.1 (clear-to k 0 p c))

  mirror-frees : (f : ℕ → Bool) → ((p : ℕ) → T (f p) ↔ Clear m 0 p) → pages_in (λ o. get_or r.free_pages o 0) 6 ≡ count f (end_of r)
  mirror-frees f is = pages-same _ _ 6 (λ o l. frees-shown o (omega arith))
      ∙ frees-are below (kept-mirrored k)
      ∙ count_same _ f (end_of r) (λ p _. let x = is-clear p in bool_iff _ (f p) (λ t. (is p).1 (x.0 t)) (λ t. x.1 ((is p).0 t)))

-- at every moment of every history from a set-up that succeeded
module _ (start : VirtAddr) (n a : ℕ) (ws : List ℕ) (done : Succeeded start n a ws) (cs : List Call) where
  abbrev m : Moment
  m = after start n a ws cs

  -- NEVER TWICE: no page is granted that is still out
  pub never-twice : Grants m
  never-twice = mirror-grants (mirror start n a ws done cs).1

  -- of each order, the blocks counted are the free ones and those still out
  pub counts : (o : ℕ) → o ≤ 5 → get_or m.region.nr_pages o 0 ≡ get_or m.region.free_pages o 0 + length (still_out m.log o)
  counts = mirror-counts (mirror start n a ws done cs).1

  -- there is a test of the managed pages that are clear of blocks still out; by any such test, the free blocks counted have as many pages
  pub clear-test : (f : ℕ → Bool) × ((p : ℕ) → T (f p) ↔ Clear m 0 p)
  clear-test = let k = (mirror start n a ws done cs).1 in (frees (below k) (kept-mirrored k), is-clear k)

  pub frees-total : (f : ℕ → Bool) → ((p : ℕ) → T (f p) ↔ Clear m 0 p)
      → pages_in (λ o. get_or m.region.free_pages o 0) 6 ≡ count f (end_of m.region)
  frees-total = mirror-frees (mirror start n a ws done cs).1

  -- ALL BACK: when no block is still out, every managed page lies in a free block
  pub all_back : ((o : ℕ) → still_out m.log o ≡ []) → (p : ℕ) → Managed m p
      → (o : ℕ) × (s : ℕ) × Free m o s × (cell o p ≡ cell o s)
  all_back none p t =
      let x = (demand3 start n a ws done cs).tile p t in
      ⊎_elim (λ f. (x.order, x.head, f, x.holds)) (λ y. absurd (mem-not_nil (rw (none x.order) at y))) x.stands
