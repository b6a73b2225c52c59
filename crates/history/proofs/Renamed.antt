-- A log with other names for pages: what is read off it is what is read off the log itself, if no two pages have one name.
use Rattle.common.specs.Kit.{ℕ, ◌≡◌, refl, sym, ap, ◌∙◌, by_cases, List, [], ◌∷◌, map, eqb, ℕ_discrete, eq-eqb, ne_eqb}
use mathlib.Core.List.Memᴰ
use Rattle.common.specs.Numbers.{remove, Once}
use Rattle.common.proofs.Tests.{by-test}
use Rattle.buddy.specs.History.{Event, took, gave, got, left, still_out, gets, puts, granted_as}

module _ (f : ℕ → ℕ) where
  abbrev pub renamed : Event → Event
  renamed (took k o p) = took k o (f p)
  renamed (gave p) = gave (f p)
  renamed (got p) = got (f p)
  renamed (left p) = left (f p)

  module _ (one : (p q : ℕ) → f p ≡ f q → p ≡ q) where
    pub map-once : (l : List ℕ) → Once l → Once (map f l)
    map-once [] u = tt
    map-once (x ∷ l) u = (λ m. let y = Memᴰ.of_map f l m in u.0 (rw (one x y.0 (sym y.2)) y.1), map-once l u.1)

    same_test : (p q : ℕ) → eqb (f p) (f q) ≡ eqb p q
    same_test p q = by_cases (ℕ_discrete p q)
        (λ e. eq-eqb (f p) (f q) (ap f e) ∙ sym (eq-eqb p q e))
        (λ e. ne_eqb (f p) (f q) (λ x. e (one p q x)) ∙ sym (ne_eqb p q e))

    remove-renamed : (p : ℕ) (l : List ℕ) → remove (f p) (map f l) ≡ map f (remove p l)
    unfolding remove
    remove-renamed p [] = refl
    remove-renamed p (x ∷ l) = rw (same_test x p) (by-test (eqb x p) (λ e. rw e) (λ e. rw (e, remove-renamed p l)))

    pub renamed-out : (es : List Event) (o : ℕ) → still_out (map renamed es) o ≡ map f (still_out es o)
    unfolding still_out
    renamed-out [] o = refl
    renamed-out (took k j p ∷ es) o = rw (renamed-out es o) (by-test (eqb j o) (λ e. rw e) (λ e. rw e))
    renamed-out (gave p ∷ es) o = rw (renamed-out es o) (remove-renamed p (still_out es o))
    renamed-out (got p ∷ es) o = renamed-out es o
    renamed-out (left p ∷ es) o = renamed-out es o

    pub renamed-gets : (es : List Event) (p : ℕ) → gets (map renamed es) (f p) ≡ gets es p
    unfolding gets
    renamed-gets [] p = refl
    renamed-gets (took k j q ∷ es) p = rw (same_test q p, renamed-gets es p)
    renamed-gets (gave q ∷ es) p = renamed-gets es p
    renamed-gets (got q ∷ es) p = rw (same_test q p, renamed-gets es p)
    renamed-gets (left q ∷ es) p = renamed-gets es p

    pub renamed-puts : (es : List Event) (p : ℕ) → puts (map renamed es) (f p) ≡ puts es p
    unfolding puts
    renamed-puts [] p = refl
    renamed-puts (took k j q ∷ es) p = rw (same_test q p, renamed-puts es p)
    renamed-puts (gave q ∷ es) p = renamed-puts es p
    renamed-puts (got q ∷ es) p = renamed-puts es p
    renamed-puts (left q ∷ es) p = rw (same_test q p, renamed-puts es p)

    pub renamed-as : (es : List Event) (p : ℕ) → granted_as (map renamed es) (f p) ≡ granted_as es p
    unfolding granted_as
    renamed-as [] p = refl
    renamed-as (took k j q ∷ es) p = rw (same_test q p, renamed-as es p)
    renamed-as (gave q ∷ es) p = renamed-as es p
    renamed-as (got q ∷ es) p = renamed-as es p
    renamed-as (left q ∷ es) p = renamed-as es p
