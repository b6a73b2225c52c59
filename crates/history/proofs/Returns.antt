-- What a return is, at every moment of every history: a free succeeds exactly at the address of a block still out, and a put answers 0 exactly
-- at that of a file page that was put as often as it was got.
use Rattle.std.specs.Prelude.{unwrap_or}
use Rattle.common.specs.Kit.{ℕ, ◌-◌, ◌≡◌, refl, sym, ap, ◌∙◌, subst, List, [], ◌∷◌, arith}
use Rattle.words.specs.declared.place.VirtAddr.{VirtAddr}
use Rattle.buddy.specs.Request.{Request, on, to_free, to_put}
use Rattle.buddy.specs.History as Model
use Rattle.buddy.specs.History.{done, counted}
use Rattle.buddy.specs.Demand as Of
use Rattle.buddy.proofs.Demand3 as Proved
use Rattle.region.specs.Layout.{end_of, managed}
use Rattle.region.specs.declared.HeapMemoryRegion.{HeapMemoryRegion}
use Rattle.sound_calls.specs.Answer.{ok}
use Rattle.sound_calls.specs.declared.Answer.{Answer}
use Rattle.sound_calls.proofs.Requests.{Tells, tells-count}
use Rattle.history.specs.Calls.{Call, Moment, after, Succeeded}
use Rattle.history.specs.Demand.{answered, Demand3, OutAt, LastAt, Returns}
use Rattle.history.proofs.Follows.{Answers, answers-page, answers-done, answers-put, start-address, by-success}
use Rattle.history.proofs.Mirror.{Mirror, mirror}
use Rattle.history.proofs.Mirrored.{mirrored, is-mirrored, kept-mirrored, gets-mirrored, puts-mirrored, as-mirrored, out-page, out-from}
use Rattle.history.proofs.Answers.{free-told}
use Rattle.history.proofs.Demand3.{demand3}

give-done : {p : ℕ} {b : Model.ModelAnswer} → Answers (on to_free p) b → b ≡ done
give-done (answers-page asks) = elim asks [ ]
give-done answers-done = refl

put_last : {r : HeapMemoryRegion} {ws : List ℕ} {p : ℕ} {b : Model.ModelAnswer} {t : Answer} → Answers (on to_put p) b → Tells r ws b t
    → t ≡ ok (0 ∷ []) → b ≡ counted 0
put_last (answers-page asks) _ _ = elim asks [ ]
put_last answers-put tells-count e = ap (λ (t : Answer). counted (unwrap_or t.value 0)) e

module _ {m : Moment} {xs : List Request} (k : Mirror m xs) where
  abbrev r : HeapMemoryRegion
  r = m.region

  model-returns : Of.Returns (managed r m.words) (mirrored k)
  model-returns = subst (Of.Returns (managed r m.words)) (is-mirrored k) (Proved.returns r.allocated (end_of r) xs)

  freed : (a : ℕ) → answered m (on to_free a) ≡ ok [] → OutAt m a
  freed a e = by-success k.good (on to_free a) [] e (λ p b t s c ans tells told.
      let x = (model-returns.frees p).0 (c ∙ give-done ans) in
      (x.0, rw (start-address r a p s) (out-from k x.0 p x.1)))

  put_back : (a : ℕ) → answered m (on to_put a) ≡ ok (0 ∷ []) → LastAt m a
  put_back a e = by-success k.good (on to_put a) (0 ∷ []) e (λ p b t s c ans tells told.
      let x = (model-returns.last p).0 (c ∙ put_last ans tells told) in
      rw (start-address r a p s) (out-from k 0 p x.0, as-mirrored k p ∙ x.1, puts-mirrored k p ∙ x.2 ∙ sym (gets-mirrored k p)))

  mirror-returns : Demand3 m → Returns m
  mirror-returns d = record {
    frees = λ a. (
      freed a,
      λ x.
          let y = out-page k x.0 a x.1 in
          rw y.2 (free-told k.good ((kept-mirrored k).real x.0 y.0 y.1)),
    );
    last = λ a. (
      put_back a,
      λ x.
          let y = out-page k 0 a x.0 in
          let e = rw y.2 at x in
          let f = d.files y.0 e.0 e.1 in
          let none : f.count - 1 ≡ 0 = omega (arith, f.since, e.2) in
          rw y.2 (rw none at f.put),
    );
  }

pub returns : (start : VirtAddr) (n a : ℕ) (ws : List ℕ) → Succeeded start n a ws → (cs : List Call) → Returns (after start n a ws cs)
returns start n a ws s cs = mirror-returns (mirror start n a ws s cs).1 (demand3 start n a ws s cs)
