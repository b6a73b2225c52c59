-- Tests: proofs by cases, what a test that holds says of its parts, and when two tests are equal.
use Rattle.common.specs.Kit.{ℕ, ◌≡◌, refl, sym, ◌≢◌, by_cases, Bool, true, false, ◌&&◌, T, ℕ_discrete}

-- either way the test comes out, P holds
pub by-test : {P : Type 0} (b : Bool) → (b ≡ true → P) → (b ≡ false → P) → P
by-test true holds _ = holds refl
by-test false _ fails = fails refl

-- j is a, or else b, or neither
pub by_two : {P : Type 0} (j a b : ℕ) → (j ≡ a → P) → (j ≢ a → j ≡ b → P) → (j ≢ a → j ≢ b → P) → P
by_two j a b first second other = by_cases (ℕ_discrete j a) first (λ e. by_cases (ℕ_discrete j b) (second e) (other e))

pub T_true : (b : Bool) → T b → b ≡ true
T_true true _ = refl
T_true false t = absurd t

pub T_false : (b : Bool) → (T b → ⊥) → b ≡ false
T_false true t = absurd (t tt)
T_false false _ = refl

pub T_and : (a b : Bool) → T (a && b) → T a × T b
T_and true b t = (tt, t)
T_and false b t = absurd t

pub and-true : (a b : Bool) → (a && b) ≡ true → (a ≡ true) × (b ≡ true)
and-true a b e = let t = T_and a b (rw e tt) in (T_true a t.0, T_true b t.1)

pub and_T : (a b : Bool) → T a → T b → T (a && b)
and_T true b _ t = t
and_T false b t _ = absurd t

pub bool_iff : (a b : Bool) → (T a → T b) → (T b → T a) → a ≡ b
bool_iff true b f _ = sym (T_true b (f tt))
bool_iff false b _ g = sym (T_false b g)
