-- The tests of `Check` as loops go through them: b is the answer, and what is left has it too, until a test fails or nothing is left.
use Rattle.common.specs.Kit.{ℕ, zero, suc, ◌+◌, ◌-◌, ◌≤◌, ◌<◌, ◌≡◌, refl, sym, ap, ◌∙◌, Bool, true, ◌&&◌, and-true, and_assoc, List, eqb, length, get_or, drop, length-drop, zero-add, ℕ_discrete, arith, eq-eqb, ne_eqb}
use Rattle.std.specs.Prelude.{min, slice_range}
use Rattle.std.proofs.lemmas.List.{length-take, get_or-take, get_or-drop}
use lib.Bits.{bit_or, bit_xor, xor_self, or_add_and, xor_add_and, and_le_l, and_le_r}
use Rattle.audit.specs.Check.{all}

-- a test at the numbers from p up to e
module _ {b : Bool} (f : ℕ → Bool) (p e : ℕ) (left : b ≡ all f p (e - p)) where
  pub all-step : p < e → b ≡ f p && all f (p + 1) (e - (p + 1))
  unfolding all
  all-step h = let n : e - p ≡ suc (e - (p + 1)) = omega arith in left ∙ ap (all f p) n

  pub all-next : p < e → f p ≡ true → b ≡ all f (p + 1) (e - (p + 1))
  all-next h t = all-step h ∙ rw t

  pub all-ends : e ≤ p → true ≡ b
  unfolding all
  all-ends h = let n : e - p ≡ 0 = omega arith in sym (left ∙ rw n)

-- a test that passes up to u
pub all-run :
    {b : Bool} (f : ℕ → Bool) (n p u e : ℕ) → u ≡ p + n → u ≤ e → ((q : ℕ) → p ≤ q → q < u → f q ≡ true) → b ≡ all f p (e - p) → b ≡ all f u (e - u)
all-run f zero p u e g h t left = left ∙ ap (λ k. all f k (e - k)) (omega arith)
all-run f (suc n) p u e g h t left =
    all-run f n (p + 1) u e (omega arith) h (λ q l k. t q (omega arith) k) (all-next f p e left (omega arith) (t p (omega arith) (omega arith)))

-- bits of n, and those in which x and y differ: there are none exactly if n has none and x is y
or-differing : (n x y : ℕ) → eqb (bit_or n (bit_xor x y)) 0 ≡ (eqb n 0 && eqb x y)
or-differing n x y =
    elim (ℕ_discrete n 0) [
      | yes z ↦ elim (ℕ_discrete x y) [
        | yes q ↦ rw (z, q, xor_self y, eq-eqb y y refl)
        | no d ↦ ne_eqb _ 0 (λ e. d (none e).1) ∙ rw (z, ne_eqb x y d)
      ]
      | no d ↦ ne_eqb _ 0 (λ e. d (none e).0) ∙ rw (ne_eqb n 0 d)
    ]
  where
    none : bit_or n (bit_xor x y) ≡ 0 → (n ≡ 0) × (x ≡ y)
    none e =
        let d = bit_xor x y in
        let z : d ≡ 0 = omega (arith, or_add_and n d, and_le_l n d, and_le_r n d) in
        (omega (arith, or_add_and n d, and_le_r n d), omega (arith, xor_add_and x y, and_le_l x y, and_le_r x y))

-- two tests that agree, from a on and from b on
all-shifted : (f g : ℕ → Bool) (a b n : ℕ) → ((i : ℕ) → i < n → f (a + i) ≡ g (b + i)) → all f a n ≡ all g b n
unfolding all
all-shifted f g a b zero h = refl
all-shifted f g a b (suc n) h =
    let first : f a ≡ g b = ap f (omega arith) ∙ h 0 (omega arith) ∙ ap g (omega arith) in
    rw (
      first,
      all-shifted f g (a + 1) (b + 1) n (λ i k. ap f (omega arith) ∙ h (suc i) (omega arith) ∙ ap g (omega arith)),
    )

pub all_same : (f g : ℕ → Bool) (a n : ℕ) → ((p : ℕ) → p < a + n → f p ≡ g p) → all f a n ≡ all g a n
all_same f g a n h = all-shifted f g a a n (λ i k. h (a + i) (omega arith))

-- a loop that looks at every number, and gathers in n the bits in which g and y differ: n, and what is left, have the answer
pub record Gathered (g : ℕ → ℕ) (y e p n : ℕ) (b : Bool) : Type 0 where
  pub left : b ≡ eqb n 0 && all (λ q. eqb (g q) y) p (e - p)

module _ {g : ℕ → ℕ} {y e p n : ℕ} {b : Bool} (c : Gathered g y e p n b) where
  pub gather-next : p < e → Gathered g y e (p + 1) (bit_or n (bit_xor (g p) y)) b
  unfolding all
  gather-next h =
      let k : e - p ≡ suc (e - (p + 1)) = omega arith in
      let rest = all (λ q. eqb (g q) y) (p + 1) (e - (p + 1)) in
      record {
        left =
            c.left
            ∙ ap (λ x. eqb n 0 && all (λ q. eqb (g q) y) p x) k
            ∙ rw (or-differing n (g p) y) (sym (and_assoc (eqb n 0) (eqb (g p) y) rest));
      }

  pub gather-ends : e ≤ p → eqb n 0 ≡ b
  unfolding all
  gather-ends h = let k : e - p ≡ 0 = omega arith in sym (c.left ∙ rw k (and-true (eqb n 0)))

-- at the first of the elements of xs from a up to e
pub gather-first : (xs : List ℕ) (y a e : ℕ) → e ≤ length xs →
    let run = slice_range xs (min a e) e in Gathered (λ i. get_or run i 0) y (length run) 0 0 (all (λ p. eqb (get_or xs p 0) y) a (e - a))
gather-first xs y a e h =
    let run = slice_range xs (min a e) e in
    let long : length run ≡ e - a = simp (length-take, length-drop) (omega arith) in
    record {
      left =
          all-shifted (λ p. eqb (get_or xs p 0) y) (λ i. eqb (get_or run i 0) y) a 0 (e - a)
          (λ i k.
          let low : min a e ≡ a = omega arith in
          ap (λ w. eqb w y) (sym (rw (low, zero-add) (get_or-take (e - a) (drop a xs) i 0 k ∙ get_or-drop a xs i 0))))
          ∙ ap (all (λ i. eqb (get_or run i 0) y) 0) (omega (arith, long));
    }
