-- Every history is mirrored by one of the model: the record and the words show the heap that the model reaches by its calls, and what is written
-- down is what the model writes, with addresses for pages.
use Rattle.common.specs.Kit.{ℕ, ◌≡◌, refl, sym, ap, ◌∙◌, List, [], ◌∷◌, ◌++◌, map}
use mathlib.Core.List.{map-append}
use Rattle.words.specs.declared.place.VirtAddr.{VirtAddr}
use Rattle.buddy.specs.Rules.{set_up}
use Rattle.buddy.specs.Request.{Request}
use Rattle.buddy.specs.History as Model
use Rattle.region.specs.Layout.{end_of, managed}
use Rattle.refine.specs.Image.{heap_of, region_of}
use Rattle.region.specs.declared.HeapMemoryRegion.{HeapMemoryRegion}
use Rattle.refine.proofs.Inverse.{write-typed, write_read, write-sound}
use Rattle.refine.proofs.Step.{Lent}
use Rattle.refine.proofs.Fresh.{fresh-fit}
use Rattle.sound_calls.specs.Answer.{Effect}
use Rattle.sound_calls.proofs.SoundInput.{SoundInput, lent, write-input}
use Rattle.region.specs.Layout.{bare}
use Rattle.heap.proofs.SetUps.{set-up-results}
use Rattle.history.specs.Calls.{Call, called, noted, Moment, next, after, Succeeded}
use Rattle.history.proofs.Renamed.{renamed}
use Rattle.history.proofs.Follows.{address_in, Follows, stays, moves, call-follows}

-- the model's moment after calls, newest first, on the pages of a region
abbrev pub model : HeapMemoryRegion → List ℕ → List Request → Model.Moment
model r ws xs = Model.after (managed r ws) (set_up r.allocated (end_of r)).heap xs

pub record Mirror (m : Moment) (xs : List Request) : Type 0 where
  pub good : SoundInput m.region m.words
  pub heap : heap_of m.region m.words ≡ (model m.region m.words xs).heap
  pub log : m.log ≡ map (renamed (address_in m.region)) (model m.region m.words xs).log

-- the set-up
module _ (start : VirtAddr) (n a : ℕ) (ws : List ℕ) (done : Succeeded start n a ws) where
  first-mirror : Mirror (after start n a ws []) []
  unfolding after Model.after region_of
  first-mirror = set-up-results start n a ws
      (λ x. x.answer.number ≡ 0 → Mirror (record { region = x.region; words = x.words; log = [] }) [])
      (λ limits _.
      let lent : Lent (bare start n a) = rw limits.long at limits in
      let f = fresh-fit (bare start n a) ws in
      record {
        good = record { typed = write-typed _ (bare start n a) _ lent f.fits; sound = write-sound (bare start n a) ws _ lent f };
        heap = write_read (bare start n a) ws _ lent f.fits;
        log = refl;
      })
      (λ k some e. absurd (some e))
      done

-- one call
module _ {m : Moment} {xs : List Request} (k : Mirror m xs) (c : Call) where
  abbrev r : HeapMemoryRegion
  r = m.region

  next-mirror : (ys : List Request) × Mirror (next m c) ys
  unfolding next Model.after Model.next region_of
  next-mirror = go (called r m.words c) (call-follows k.good c)
    where
      go : (x : Effect) → Follows r m.words c x
          → (ys : List Request) × Mirror (record { region = x.region; words = x.words; log = noted c x.answer ++ m.log }) ys
      go _ (stays t _ e) = (xs, rw e k)
      go _ (moves t {g = g} x a _ e f w) = (
        x ∷ xs,
        record {
          good = write-input k.good g f;
          heap = write_read r m.words g (lent k.good) f.fits ∙ sym (ap (λ (y : Model.Outcome). y.heap) same);
          log = rw (w, k.log, same) (sym (map-append (renamed (address_in r)) (Model.written x a) _));
        },
      )
        where
          same : Model.call (managed r m.words) (model r m.words xs).heap x ≡ Model.outcome g a
          same = rw k.heap at e

-- EVERY HISTORY IS MIRRORED
pub mirror : (start : VirtAddr) (n a : ℕ) (ws : List ℕ) → Succeeded start n a ws → (cs : List Call)
    → (xs : List Request) × Mirror (after start n a ws cs) xs
unfolding after
mirror start n a ws done [] = ([], first-mirror start n a ws done)
mirror start n a ws done (c ∷ cs) = next-mirror (mirror start n a ws done cs).1 c
