-- The page after a page on a list. Words whose next fields are these pages link the list: a walk from its head finds it again.
use Rattle.common.specs.Kit.{ℕ, ◌≡◌, refl, sym, ap, ◌∙◌, ◌≢◌, ◌⊎◌, inl, inr, ⊎_elim, by_cases, List, [], ◌∷◌, Memᴰ, mem-head, mem-tail, mem-cases, mem-not_nil, length, ℕ_discrete, eq-eqb, ne_eqb}
use Rattle.common.specs.Numbers.{Once}
use Rattle.words.specs.Word.{no_page}
use Rattle.pages.specs.Said.{said, next_in}
use Rattle.refine.specs.Image.{head_or, next_after, walk}

module _ (p x : ℕ) (xs : List ℕ) where
  pub after_same : x ≡ p → next_after p (x ∷ xs) ≡ head_or xs
  unfolding next_after
  after_same e = rw (eq-eqb x p e)

  pub after-other : x ≢ p → next_after p (x ∷ xs) ≡ next_after p xs
  unfolding next_after
  after-other e = rw (ne_eqb x p e)

-- it stands behind the head, or is none
pub after_tail : (p x : ℕ) (l : List ℕ) → (next_after p (x ∷ l) ≡ no_page) ⊎ Memᴰ (next_after p (x ∷ l)) l
unfolding next_after
after_tail p x [] = by_cases (ℕ_discrete x p) (λ e. inl (after_same p x [] e)) (λ e. inl (after-other p x [] e))
after_tail p x (y ∷ l) = by_cases (ℕ_discrete x p)
    (λ e. inr (mem-head (after_same p x (y ∷ l) e)))
    (λ e. rw (after-other p x (y ∷ l) e) (⊎_elim inl (λ m. inr (mem-tail m)) (after_tail p y l)))

pub after-in : (p : ℕ) (l : List ℕ) → (next_after p l ≡ no_page) ⊎ Memᴰ (next_after p l) l
unfolding next_after
after-in p [] = inl refl
after-in p (x ∷ l) = ⊎_elim inl (λ m. inr (mem-tail m)) (after_tail p x l)

-- f leads from each page of the list to the next, and from the last to none
abbrev pub Links : (ℕ → ℕ) → List ℕ → Type 0
Links f [] = Unit {0}
Links f (x ∷ xs) = (f x ≡ head_or xs) × Links f xs

pub after-links : (f : ℕ → ℕ) (l : List ℕ) → Once l → ((x : ℕ) → Memᴰ x l → f x ≡ next_after x l) → Links f l
after-links f [] u next = tt
after-links f (x ∷ xs) u next = (
  next x (mem-head refl) ∙ after_same x x xs refl,
  after-links f xs u.1 (λ y m. next y (mem-tail m) ∙ after-other y x xs (λ e. u.0 (rw e m))),
)

pub links-after : (f : ℕ → ℕ) (l : List ℕ) → Links f l → (x : ℕ) → Memᴰ x l → f x ≡ next_after x l
links-after f [] k x m = absurd (mem-not_nil m)
links-after f (y ∷ l) k x m = by_cases (ℕ_discrete y x)
    (λ e. rw (after_same x y l e) (rw e at k.0))
    (λ e. rw (after-other x y l e) (⊎_elim (λ d. absurd (e (sym d))) (links-after f l k.1 x) (mem-cases m)))

pub walk-links : (ws l : List ℕ) → Links (λ p. next_in (said ws p)) l → walk ws (length l) (head_or l) ≡ l
unfolding walk
walk-links ws [] k = refl
walk-links ws (x ∷ l) k = rw k.0 (ap (λ m. x ∷ m) (walk-links ws l k.1))
