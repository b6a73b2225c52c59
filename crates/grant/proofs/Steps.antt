-- The steps of a grant: the search for a list and the split down, taken one step, and the page that is taken.
use Rattle.common.specs.Kit.{ℕ, suc, ◌+◌, ◌-◌, ◌<◌, ◌≡◌, refl, cond, List, eqb, length, get_or, add-one, arith, eqb-false, Some}
use Rattle.common.proofs.Tests.{by-test}
use Rattle.words.specs.Word.{no_page}
use Rattle.region.specs.State.{State, head_in, if_at, head_taken, take_head, TakeOk, split, SplitOk}
use Rattle.region.specs.Steps.{lowest_from, split_down, DownOk}

pub lowest_step :
    (o : ℕ) (heads : List ℕ) →
    o < 6 →
    lowest_from (6 - o) o heads ≡ cond (eqb (get_or heads o 0) no_page) (lowest_from (6 - (o + 1)) (o + 1) heads) (Some o)
unfolding lowest_from
lowest_step o heads h = let e : 6 - o ≡ suc (6 - (o + 1)) = omega arith in rw (e, add-one o)

-- from list j, which is above list o
module _ (o j : ℕ) (s : State) (h : o < j) where
  less : (j - o ≡ suc (j - 1 - o)) × (j - 1 - o + o ≡ j - 1) × (suc (j - 1) ≡ j)
  less = (omega arith, omega arith, omega arith)

  pub down_step :
      split_down o (j - o) s
      ≡ if_at (head_taken j s) (λ p. split_down o (j - 1 - o) (split p (j - 1) (take_head j s))) (take_head j s)
  unfolding split_down
  down_step = rw (less.0, less.1, less.2)

  pub ok_step :
      DownOk o (j - o) s →
      TakeOk j s
      × ((p : ℕ) → head_taken j s ≡ Some p →
      SplitOk p j (take_head j s) × DownOk o (j - 1 - o) (split p (j - 1) (take_head j s)))
  unfolding DownOk
  ok_step d = rw (less.0, less.1, less.2) at d

-- a page that is taken off a list has a word
pub taken-inside : {o p : ℕ} {s : State} → TakeOk o s → head_taken o s ≡ Some p → p < length s.ws
unfolding head_taken
taken-inside {o} {p} {s} ok e =
    by-test (eqb (head_in s o) no_page)
    (λ t. let z : ◌≡◌ {A = ℕ} 0 1 = cc (simp t at e) in absurd (eqb-false 0 1 refl z))
    (λ t. let q : head_in s o ≡ p = cc (simp t at e) in rw (← q) (ok.head (eqb-false _ _ t)))
