-- Lists of numbers, functions on numbers and counts: general notions that the kit's library does not have.
use Rattle.std.specs.Prelude.{ℕ, zero, suc, ◌+◌, ◌<◌, Bool, cond, List, [], ◌∷◌, eqb}
use Rattle.common.specs.Kit.{Memᴰ}

-- f, but with the value x at i
unfoldable pub update : {A : Type 0} → (ℕ → A) → ℕ → A → ℕ → A
update f i x j = cond (eqb j i) x (f j)

-- the list without the first p in it; the others keep their order
unfoldable pub remove : ℕ → List ℕ → List ℕ
remove p [] = []
remove p (x ∷ xs) = cond (eqb x p) xs (x ∷ remove p xs)

-- no number stands twice in the list
abbrev pub Once : List ℕ → Type 0
Once [] = Unit {0}
Once (x ∷ xs) = (Memᴰ x xs → ⊥) × Once xs

-- the numbers fall: each is above all that follow it
abbrev pub Falling : List ℕ → Type 0
Falling [] = Unit {0}
Falling (x ∷ xs) = ((y : ℕ) → Memᴰ y xs → y < x) × Falling xs

-- 1 where a test holds, else 0
abbrev pub one : Bool → ℕ
one b = cond b 1 0

-- how many of the numbers below n pass a test
unfoldable pub count : (ℕ → Bool) → ℕ → ℕ
count f zero = 0
count f (suc n) = count f n + one (f n)
