-- A moment and the moment of the model that mirrors it: what is managed, still out or clear by the one is so by the other.
use Rattle.common.specs.Kit.{ℕ, ◌≡◌, sym, subst, inl, inr, List, map, Memᴰ, arith}
use mathlib.Core.List.Memᴰ
use Rattle.buddy.specs.Request.{Request}
use Rattle.buddy.specs.History as Model
use Rattle.buddy.specs.History.{still_out, gets, puts, granted_as}
use Rattle.buddy.specs.Demand as Of
use Rattle.buddy.proofs.Kept.{Kept}
use Rattle.buddy.proofs.Demand3.{kept}
use Rattle.region.specs.Layout.{end_of, managed}
use Rattle.refine.specs.Image.{heap_of}
use Rattle.region.specs.declared.HeapMemoryRegion.{HeapMemoryRegion}
use Rattle.history.specs.Calls.{Moment}
use Rattle.history.specs.Demand.{address_of, Out, Stands, Clear}
use Rattle.history.proofs.Renamed.{renamed-out, renamed-gets, renamed-puts, renamed-as}
use Rattle.history.proofs.Mirror.{model, Mirror}

-- no two pages have one address
pub one-page : (m : Moment) (p q : ℕ) → address_of m p ≡ address_of m q → p ≡ q
one-page m p q e = omega arith

module _ {m : Moment} {xs : List Request} (k : Mirror m xs) where
  abbrev r : HeapMemoryRegion
  r = m.region

  -- the model's moment, with the heap that record and words show
  abbrev pub mirrored : Model.Moment
  mirrored = record { heap = heap_of r m.words; log = (model r m.words xs).log }

  pub is-mirrored : model r m.words xs ≡ mirrored
  is-mirrored = λ i. record { heap = sym k.heap i; log = (model r m.words xs).log }

  pub kept-mirrored : Kept (managed r m.words) (end_of r) mirrored
  kept-mirrored = subst (Kept (managed r m.words) (end_of r)) is-mirrored (kept r.allocated (end_of r) xs)

  -- what is read off the log
  abbrev es : List Model.Event
  es = (model r m.words xs).log

  pub out-mirrored : (o : ℕ) → still_out m.log o ≡ map (address_of m) (still_out es o)
  out-mirrored o = rw k.log (renamed-out (address_of m) (one-page m) es o)

  pub gets-mirrored : (p : ℕ) → gets m.log (address_of m p) ≡ gets es p
  gets-mirrored p = rw k.log (renamed-gets (address_of m) (one-page m) es p)

  pub puts-mirrored : (p : ℕ) → puts m.log (address_of m p) ≡ puts es p
  puts-mirrored p = rw k.log (renamed-puts (address_of m) (one-page m) es p)

  pub as-mirrored : (p : ℕ) → granted_as m.log (address_of m p) ≡ granted_as es p
  as-mirrored p = rw k.log (renamed-as (address_of m) (one-page m) es p)

  pub out-page : (o a : ℕ) → Memᴰ a (still_out m.log o) → (p : ℕ) × Of.Out (managed r m.words) mirrored o p × (a ≡ address_of m p)
  out-page o a x = let y = Memᴰ.of_map (address_of m) (still_out es o) (rw (out-mirrored o) at x) in (y.0, y.1, sym y.2)

  pub out-to : (o p : ℕ) → Out m o p → Of.Out (managed r m.words) mirrored o p
  out-to o p x = let y = out-page o _ x in rw (one-page m p y.0 y.2) y.1

  pub out-from : (o p : ℕ) → Of.Out (managed r m.words) mirrored o p → Out m o p
  out-from o p x = rw (out-mirrored o) (Memᴰ.map (address_of m) x)

  pub stands-to : (o p : ℕ) → Stands m o p → Of.Stands (managed r m.words) mirrored o p
  stands-to o p (inl x) = inl x
  stands-to o p (inr x) = inr (out-to o p x)

  pub stands_from : (o p : ℕ) → Of.Stands (managed r m.words) mirrored o p → Stands m o p
  stands_from o p (inl x) = inl x
  stands_from o p (inr x) = inr (out-from o p x)

  pub clear-to : (o c : ℕ) → Clear m o c → Of.Clear (managed r m.words) mirrored o c
  clear-to o c f q e = ((f q e).0, λ j s x. (f q e).1 j s (out-from j s x))

  pub clear-from : (o c : ℕ) → Of.Clear (managed r m.words) mirrored o c → Clear m o c
  clear-from o c f q e = ((f q e).0, λ j s x. (f q e).1 j s (out-to j s x))
