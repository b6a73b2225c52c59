-- A table of the values of a function: its length, its values, and that a list with these is the table.
use Rattle.common.specs.Kit.{ℕ, zero, suc, ◌+◌, ◌<◌, ◌≡◌, refl, sym, ap, ◌∙◌, List, length, get_or, ext_get_or, zero-add, arith}
use Rattle.refine.specs.Image.{table}

pub length-table : (f : ℕ → ℕ) (a n : ℕ) → length (table f a n) ≡ n
unfolding table
length-table f a zero = refl
length-table f a (suc n) = ap suc (length-table f (a + 1) n)

get_d-from : (f : ℕ → ℕ) (a n i : ℕ) → i < n → get_or (table f a n) i 0 ≡ f (a + i)
unfolding table
get_d-from f a zero i l = absurd (omega arith)
get_d-from f a (suc n) zero l = let z : a ≡ a + 0 = omega arith in ap f z
get_d-from f a (suc n) (suc i) l = let z : a + 1 + i ≡ a + suc i = omega arith in get_d-from f (a + 1) n i (omega arith) ∙ ap f z

-- tables of record and words begin at 0
pub get_d-table : (f : ℕ → ℕ) (n i : ℕ) → i < n → get_or (table f 0 n) i 0 ≡ f i
get_d-table f n i l = get_d-from f 0 n i l ∙ ap f (zero-add i)

pub is-table : (f : ℕ → ℕ) (n : ℕ) (l : List ℕ) → length l ≡ n → ((i : ℕ) → i < n → get_or l i 0 ≡ f i) → l ≡ table f 0 n
is-table f n l e same = ext_get_or 0 l (table f 0 n) (e ∙ sym (length-table f 0 n))
    (λ i k. same i (omega arith) ∙ sym (get_d-table f n i (omega arith)))
