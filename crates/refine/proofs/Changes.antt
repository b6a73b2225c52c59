-- Changes of a list: a table changed at a place is the table of the changed function; and what a fill leaves, by its values.
use Rattle.common.specs.Kit.{ℕ, zero, suc, ◌+◌, ◌≤◌, ◌<◌, ◌≡◌, refl, ◌∙◌, by_cases, List, length, get_or, set, length-set, get_or-set_same, get_or-set_other, ℕ_discrete, arith}
use Rattle.common.specs.Numbers.{update}
use Rattle.common.proofs.Lists.{update_same, update_other}
use Rattle.pages.specs.Fill.{fill}
use Rattle.refine.specs.Image.{table}
use Rattle.refine.proofs.Tables.{length-table, get_d-table, is-table}

-- beyond the end nothing changes, on either side
pub table-update : {A : Type 0} (f : A → ℕ) (g : ℕ → A) (n i : ℕ) (x : A)
    → set (table (λ k. f (g k)) 0 n) i (f x) ≡ table (λ k. f (update g i x k)) 0 n
table-update f g n i x = is-table _ n _ (length-set l i (f x) ∙ length-table _ 0 n) (λ k m. by_cases (ℕ_discrete k i)
    (λ e. rw (update_same g i x k e, e) (get_or-set_same l i (f x) 0 (omega (arith, length-table (λ j. f (g j)) 0 n))))
    (λ e. rw (update_other g i x k e) (get_or-set_other l i k (f x) 0 e ∙ get_d-table _ n k m)))
  where
    l : List ℕ
    l = table (λ k. f (g k)) 0 n

-- a fill keeps the length, writes the pages of its run, and no others
module _ (q v : ℕ) where
  pub length-fill : (k : ℕ) (l : List ℕ) → length (fill q v k l) ≡ length l
  unfolding fill
  length-fill zero l = refl
  length-fill (suc k) l = length-set (fill q v k l) (q + k) v ∙ length-fill k l

  pub fill_on : (k : ℕ) (l : List ℕ) (i : ℕ) → i < length l → q ≤ i → i < q + k → get_or (fill q v k l) i 0 ≡ v
  unfolding fill
  fill_on zero l i n a b = absurd (omega arith)
  fill_on (suc k) l i n a b = by_cases (ℕ_discrete i (q + k))
      (λ e. rw e (get_or-set_same (fill q v k l) (q + k) v 0 (omega (arith, length-fill k l))))
      (λ e. get_or-set_other (fill q v k l) (q + k) i v 0 e ∙ fill_on k l i n a (omega arith))

  pub fill-off : (k : ℕ) (l : List ℕ) (i : ℕ) → (q ≤ i → i < q + k → ⊥) → get_or (fill q v k l) i 0 ≡ get_or l i 0
  unfolding fill
  fill-off zero l i out = refl
  fill-off (suc k) l i out =
      get_or-set_other (fill q v k l) (q + k) i v 0 (λ e. out (omega arith) (omega arith)) ∙ fill-off k l i (λ a b. out a (omega arith))
