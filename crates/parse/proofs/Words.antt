-- Past the white space of a line there is either nothing more, or a run of other bytes that is the next word.
use Rattle.common.specs.Kit.{ℕ, suc, Bool, cond, ◌-◌, ◌≤◌, ◌<◌, ◌≡◌, refl, ap, ◌∙◌, true, false, List, [], ◌∷◌, length, take, drop, length-drop, take_all, arith}
use Rattle.common.proofs.Tests.{by-test}
use Rattle.std.specs.Bool.{beq}
use Rattle.std.specs.List.{prefix_len}
use Rattle.parse.specs.Line.{blank, before, words_of}

-- how many bytes at the start are blank, or how many are not
unfoldable run_of : Bool → List ℕ → ℕ
run_of t [] = 0
run_of t (b ∷ bs) = cond (beq (blank b) t) (suc (run_of t bs)) 0

run_is : (t : Bool) (l : List ℕ) → prefix_len (λ b. beq (blank b) t) l ≡ run_of t l
unfolding run_of
run_is t [] = refl
run_is t (b ∷ bs) = rw (run_is t bs) (ap (λ n. cond (beq (blank b) t) n 0) (omega arith))

words-blank : (l : List ℕ) → length l ≤ run_of true l → words_of l ≡ []
unfolding run_of words_of
words-blank [] h = refl
words-blank (b ∷ bs) h =
    by-test (blank b) (λ e. let k = rw e at h in rw e (words-blank bs (omega arith))) (λ e. let k = rw e at h in absurd (omega arith))

-- the words of l are the run of bytes at the start of r, and the words after it
abbrev Begins : List ℕ → List ℕ → Type 0
Begins l r = words_of l ≡ take (run_of false r) r ∷ words_of (drop (run_of false r) r)

word_first : (b : ℕ) (bs : List ℕ) → blank b ≡ false → Begins (b ∷ bs) (b ∷ bs)
unfolding run_of words_of
word_first b [] e = rw e
word_first b (c ∷ cs) e =
    by-test (blank c) (λ f. simp (e, f)) (λ f. simp (e, f) (ap (before b) (simp f at (word_first c cs f))))

words-begin : (l : List ℕ) → run_of true l < length l → Begins l (drop (run_of true l) l)
unfolding run_of words_of
words-begin [] h = absurd (omega arith)
words-begin (b ∷ bs) h =
    by-test
    (blank b)
    (λ e. let k = rw e at h in rw e (words-begin bs (omega arith)))
    (λ e. let k : run_of true (b ∷ bs) ≡ 0 = rw e in rw k (word_first b bs e))

-- the same of the code's slices: past the b blanks there is nothing, or else a word of n bytes
module _ (b : ℕ) (l : List ℕ) (skip : b ≡ prefix_len (λ c. beq (blank c) true) l) where
  rest : take (length l - b) (drop b l) ≡ drop (run_of true l) l
  rest = take_all (length l - b) (drop b l) (omega (arith, length-drop b l)) ∙ rw (skip, run_is true l)

  pub words-none : length (take (length l - b) (drop b l)) ≡ 0 → words_of l ≡ []
  words-none h = words-blank l (omega (arith, rw rest at h, length-drop (run_of true l) l))

  pub words-next : (n : ℕ) → (length (take (length l - b) (drop b l)) ≡ 0 → ⊥)
      → n ≡ prefix_len (λ c. beq (blank c) false) (take (length l - b) (drop b l))
      → words_of l ≡ take n (take (length l - b) (drop b l)) ∷ words_of (drop n (take (length l - b) (drop b l)))
  words-next n h e =
      let is : n ≡ run_of false (drop (run_of true l) l) = e ∙ rw rest (run_is false (drop (run_of true l) l)) in
      rw (rest, is) (words-begin l (omega (arith, rw rest at h, length-drop (run_of true l) l)))
