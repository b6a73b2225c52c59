-- Tests that decide: comparisons, both of two, not, and a test at a run of numbers. Nothing here is about a heap.
use Rattle.common.specs.Kit.{ℕ, zero, suc, ◌+◌, ◌≤◌, ◌<◌, ◌≡◌, refl, Bool, true, false, not, ◌&&◌, false≢true, T, eqb, leb, ltb, ℕ_discrete, arith, eq-eqb, lt-ltb, le-leb, eqb-true, ltb-true, leb-true}
use Rattle.common.proofs.Tests.{T_true, bool_iff}
use Rattle.audit.specs.Decides.{Decides}
use Rattle.audit.specs.Check.{all}

pub decide_true : Decides true (Unit {0})
decide_true = record { yes = λ _. tt; back = λ _. refl }

pub decide_eq : (m n : ℕ) → Decides (eqb m n) (m ≡ n)
decide_eq m n = record { yes = eqb-true m n; back = eq-eqb m n }

pub decide-le : (m n : ℕ) → Decides (leb m n) (m ≤ n)
decide-le m n = record { yes = leb-true m n; back = le-leb m n }

pub decide-lt : (m n : ℕ) → Decides (ltb m n) (m < n)
decide-lt m n = record { yes = ltb-true m n; back = lt-ltb m n }

pub decide_T : (b : Bool) → Decides b (T b)
decide_T b = record { yes = λ e. rw e tt; back = T_true b }

-- two tests of one question
pub decide-same : {b c : Bool} {P : Type 0} → Decides b P → Decides c P → b ≡ c
decide-same {b} {c} d f = bool_iff b c (λ t. rw (f.back (d.yes (T_true b t))) tt) (λ t. rw (d.back (f.yes (T_true c t))) tt)

-- the same question in other words
pub decide-as : {b : Bool} {P Q : Type 0} → (P → Q) → (Q → P) → Decides b P → Decides b Q
decide-as f g d = record { yes = λ e. f (d.yes e); back = λ q. d.back (g q) }

-- the second test may rest on what the first one found
pub decide-and : {b c : Bool} {P Q : Type 0} → Decides b P → (P → Decides c Q) → Decides (b && c) (P × Q)
decide-and {b = true} d n = let p = d.yes refl in record { yes = λ e. (p, (n p).yes e); back = λ x. (n p).back x.1 }
decide-and {b = false} d n = record { yes = λ e. absurd (false≢true e); back = λ x. d.back x.0 }

pub decide-not : {b : Bool} {P : Type 0} → Decides b P → Decides (not b) (P → ⊥)
decide-not {b = true} d = record { yes = λ e. absurd (false≢true e); back = λ n. absurd (n (d.yes refl)) }
decide-not {b = false} d = record { yes = λ e p. false≢true (d.back p); back = λ n. refl }

pub decide-all :
    {f : ℕ → Bool} {P : ℕ → Type 0} (a n : ℕ) → ((p : ℕ) → a ≤ p → p < a + n → Decides (f p) (P p)) →
    Decides (all f a n) ((p : ℕ) → a ≤ p → p < a + n → P p)
unfolding all
decide-all a zero d = record { yes = λ e p h k. absurd (omega arith); back = λ x. refl }
decide-all a (suc n) d =
    decide-as
    (λ x p h k. elim (ℕ_discrete a p) [ yes e ↦ rw (← e) x.0 | no e ↦ x.1 p (omega arith) (omega arith) ])
    (λ x. (x a (omega arith) (omega arith), λ p h k. x p (omega arith) (omega arith)))
    (decide-and (d a (omega arith) (omega arith)) (λ _. decide-all (a + 1) n (λ p h k. d p (omega arith) (omega arith))))

-- a test of the six orders
pub decide-orders : {f : ℕ → Bool} {P : ℕ → Type 0} → ((o : ℕ) → Decides (f o) (P o)) → Decides (all f 0 6) ((o : ℕ) → o < 6 → P o)
decide-orders d = decide-as (λ x o h. x o (omega arith) h) (λ x o _ h. x o h) (decide-all 0 6 (λ o _ _. d o))
