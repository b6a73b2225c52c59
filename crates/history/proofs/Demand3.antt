-- DEMAND 3 of the public calls: it holds of the model at every moment, and every moment is mirrored by one of the model's.
use Rattle.common.specs.Kit.{[], ℕ, ◌≤◌, ◌≡◌, refl, sym, ◌∙◌, subst, ◌↔◌, inr, List, arith}
use Rattle.words.specs.declared.place.VirtAddr.{VirtAddr}
use Rattle.buddy.specs.Heap.{file}
use Rattle.buddy.specs.Request.{Request, Asks}
use Rattle.buddy.specs.History as Model
use Rattle.buddy.specs.History.{still_out, granted_as}
use Rattle.buddy.specs.Demand as Of
use Rattle.buddy.proofs.Pages.{file-page}
use Rattle.buddy.proofs.Demand3 as Proved
use Rattle.region.specs.Layout.{end_of, managed}
use Rattle.refine.specs.Image.{heap_of}
use Rattle.region.specs.declared.HeapMemoryRegion.{HeapMemoryRegion}
use Rattle.sound_calls.specs.Answer.{no}
use Rattle.sound_calls.proofs.SoundInput.{fit}
use Rattle.sound_calls.proofs.Heads.{file-said}
use Rattle.history.specs.Calls.{Call, Moment, after, Succeeded}
use Rattle.history.specs.Demand.{address_of, answered, Out, Clear, FileCount, Demand3}
use Rattle.history.proofs.Mirror.{Mirror, mirror}
use Rattle.history.proofs.Renamed.{map-once}
use Rattle.history.proofs.Mirrored.{mirrored, is-mirrored, gets-mirrored, puts-mirrored, as-mirrored, out-page, out-to, stands-to, stands_from, clear-to, clear-from, out-mirrored, one-page}
use Rattle.history.proofs.Answers.{wants-memory, none-damaged, get-told, full-told, put-told}

module _ {m : Moment} {xs : List Request} (k : Mirror m xs) where
  abbrev r : HeapMemoryRegion
  r = m.region

  demand : Of.Demand3 (managed r m.words) (mirrored k) (end_of r)
  demand = subst (λ (x : Model.Moment). Of.Demand3 (managed r m.words) x (end_of r)) (is-mirrored k) (Proved.demand3 r.allocated (end_of r) xs)

  -- a request is refused for want of memory when no run of its order is clear
  none-clear : (x : Request) (o : ℕ) → Asks x o → o ≤ 5 → (answered m x ≡ no 6 []) ↔ ((d : ℕ) → Clear m o d → ⊥)
  none-clear x o asks l =
      let w = wants-memory k.good asks l in
      let y = demand.want o l in
      (λ e d f. y.0 (w.0 e) d (clear-to k o d f), λ f. w.1 (y.1 (λ d g. f d (clear-from k o d g))))

  -- a file page has the count that the log says
  counted : (p : ℕ) → Out m 0 p → granted_as m.log (address_of m p) ≡ file 1 → FileCount m p
  counted p x g =
      let out = out-to k 0 p x in
      let is = rw (sym (as-mirrored k p) ∙ g) at (demand.kinds 0 p out) in
      let f = file-page (fit k.good).sound.core.tiled (demand.inside 0 p p (inr out) refl) is.1 in
      record {
        count = is.0;
        some = f.positive;
        word = file-said k.good.sound p is.0 f;
        since = omega (arith, is.2, puts-mirrored k p, gets-mirrored k p);
        get = get-told k.good f;
        full = full-told k.good f;
        put = put-told k.good f;
      }

  mirror-demand3 : Demand3 m
  unfolding heap_of
  mirror-demand3 = record {
    tile = λ p t. let x = demand.tile p t in record {
      order = x.order;
      head = x.head;
      stands = stands_from k _ _ x.stands;
      holds = x.holds;
      only = λ o s y. x.only o s (stands-to k o s y);
      not-both = λ y z. x.not-both y (out-to k _ _ z);
    };
    once = λ o. rw (out-mirrored k o) (map-once (address_of m) (one-page m) (still_out (mirrored k).log o) (demand.once o));
    aligned = λ o p x. demand.aligned o p (stands-to k o p x);
    inside = λ o p q x. demand.inside o p q (stands-to k o p x);
    placed = λ o a x. let y = out-page k o a x in (y.0, y.2);
    totals = demand.totals;
    apart = demand.apart;
    want = none-clear;
    sound = none-damaged k.good;
    files = counted;
  }

-- THE THEOREM
pub demand3 : (start : VirtAddr) (n a : ℕ) (ws : List ℕ) → Succeeded start n a ws → (cs : List Call) → Demand3 (after start n a ws cs)
demand3 start n a ws done cs = mirror-demand3 (mirror start n a ws done cs).1
