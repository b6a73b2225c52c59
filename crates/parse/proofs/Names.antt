-- A word that is no text is no name.
use Rattle.common.specs.Kit.{ℕ, zero, suc, ltb, ◌≡◌, refl, Bool, true, ◌&&◌, List, [], ◌∷◌, ltb-true, arith}
use Rattle.std.specs.Prelude.{None, IsUtf8, IsAscii, bytes_eq, codes}
use Rattle.std.proofs.lemmas.Str.{IsUtf8-from_ascii}
use Rattle.std.proofs.lemmas.Bool.{and_parts}
use Rattle.std.proofs.lemmas.Slice.Eq.{bytes_eq-Decides}
use Prim.Native.String.{String}
use Rattle.common.proofs.Tests.{by-test}
use Rattle.parse.specs.Line.{found, fields, requests, field_of, asked}

abbrev every : (ℕ → Bool) → List ℕ → Bool
every t [] = true
every t (b ∷ bs) = t b && every t bs

ascii : (l : List ℕ) → every (λ b. ltb b 128) l ≡ true → IsAscii l
ascii [] e i = omega arith
ascii (b ∷ bs) e zero = ltb-true b 128 (and_parts (ltb b 128) (every (λ c. ltb c 128) bs) e).0
ascii (b ∷ bs) e (suc i) = ascii bs (and_parts (ltb b 128) (every (λ c. ltb c 128) bs) e).1 i

abbrev texts : {A : Type 0} → List (String × A) → Bool
texts [] = true
texts ((name, x) ∷ more) = every (λ b. ltb b 128) (codes name) && texts more

not_found : {A : Type 0} (t : List (String × A)) (w : List ℕ) → texts t ≡ true → (IsUtf8 w → ⊥) → found t w ≡ None
not_found [] w all not = refl
not_found ((name, x) ∷ more) w all not =
    let both = and_parts (every (λ b. ltb b 128) (codes name)) (texts more) all in
    by-test (bytes_eq w (codes name))
    (λ e. let same : w ≡ codes name = (bytes_eq-Decides w (codes name)).0 e in absurd (not (rw same (IsUtf8-from_ascii (codes name) (ascii (codes name) both.0)))))
    (λ e. rw e (not_found more w both.1 not))

pub not_field : (w : List ℕ) → (IsUtf8 w → ⊥) → field_of w ≡ None
unfolding field_of
not_field w not = not_found fields w refl not

pub not_request : (w : List ℕ) (ws : List (List ℕ)) → (IsUtf8 w → ⊥) → asked (w ∷ ws) ≡ None
unfolding asked
not_request w ws not = rw (not_found requests w refl not) refl
