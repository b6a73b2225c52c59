-- A function changed at one number, lists with one number taken out, and lists that fall.
use Rattle.common.specs.Kit.{ℕ, ◌≤◌, ◌≡◌, refl, sym, ap, ◌∙◌, ◌≢◌, ◌↔◌, ⊎_elim, by_cases, List, [], ◌∷◌, Memᴰ, mem-head, mem-tail, mem-cases, mem-not_nil, ℕ_discrete, arith, eq-eqb, ne_eqb}
use Rattle.common.specs.Numbers.{update, remove, Once, Falling}

module _ {A : Type 0} (f : ℕ → A) (i : ℕ) (x : A) (j : ℕ) where
  pub update_same : j ≡ i → update f i x j ≡ x
  unfolding update
  update_same e = rw (eq-eqb j i e)

  pub update_other : j ≢ i → update f i x j ≡ f j
  unfolding update
  update_other e = rw (ne_eqb j i e)

module _ (p : ℕ) where
  pub remove-same : (x : ℕ) (xs : List ℕ) → x ≡ p → remove p (x ∷ xs) ≡ xs
  unfolding remove
  remove-same x xs e = rw (eq-eqb x p e)

  pub remove-other : (x : ℕ) (xs : List ℕ) → x ≢ p → remove p (x ∷ xs) ≡ x ∷ remove p xs
  unfolding remove
  remove-other x xs e = rw (ne_eqb x p e)

  -- what is left was there
  pub mem-of-remove : (q : ℕ) (l : List ℕ) → Memᴰ q (remove p l) → Memᴰ q l
  unfolding remove
  mem-of-remove q [] m = m
  mem-of-remove q (x ∷ xs) m = by_cases (ℕ_discrete x p)
      (λ e. mem-tail (rw (remove-same x xs e) at m))
      (λ e. ⊎_elim (λ k. mem-head k) (λ k. mem-tail (mem-of-remove q xs k)) (mem-cases (rw (remove-other x xs e) at m)))

  -- and is not p
  pub not-removed : (l : List ℕ) → Once l → Memᴰ p (remove p l) → ⊥
  unfolding remove
  not-removed [] u m = mem-not_nil m
  not-removed (x ∷ xs) u m = by_cases (ℕ_discrete x p)
      (λ e. u.0 (rw e (rw (remove-same x xs e) at m)))
      (λ e. ⊎_elim (λ k. e (sym k)) (λ k. not-removed xs u.1 k) (mem-cases (rw (remove-other x xs e) at m)))

  -- all others are left
  pub mem-remove : (q : ℕ) (l : List ℕ) → q ≢ p → Memᴰ q l → Memᴰ q (remove p l)
  mem-remove q [] n m = absurd (mem-not_nil m)
  mem-remove q (x ∷ xs) n m = by_cases (ℕ_discrete x p)
      (λ e. rw (remove-same x xs e) (⊎_elim (λ k. absurd (n (k ∙ e))) (λ k. k) (mem-cases m)))
      (λ e. rw (remove-other x xs e) (⊎_elim (λ k. mem-head k) (λ k. mem-tail (mem-remove q xs n k)) (mem-cases m)))

  pub once-remove : (l : List ℕ) → Once l → Once (remove p l)
  unfolding remove
  once-remove [] u = tt
  once-remove (x ∷ xs) u = by_cases (ℕ_discrete x p)
      (λ e. rw (remove-same x xs e) u.1)
      (λ e. rw (remove-other x xs e) (λ m. u.0 (mem-of-remove x xs m), once-remove xs u.1))

  pub falling-remove : (l : List ℕ) → Falling l → Falling (remove p l)
  unfolding remove
  falling-remove [] f = tt
  falling-remove (x ∷ xs) f = by_cases (ℕ_discrete x p)
      (λ e. rw (remove-same x xs e) f.1)
      (λ e. rw (remove-other x xs e) (λ y m. f.0 y (mem-of-remove y xs m), falling-remove xs f.1))

-- the head is the highest
head-top : (x : ℕ) (xs : List ℕ) → Falling (x ∷ xs) → (q : ℕ) → Memᴰ q (x ∷ xs) → q ≤ x
head-top x xs f q m = ⊎_elim (λ e. omega arith) (λ k. omega (arith, f.0 q k)) (mem-cases m)

-- behind one head, what is in both lists is in both rests
tail-in : (x : ℕ) (xs ys : List ℕ) → Falling (x ∷ xs) → (q : ℕ) → (Memᴰ q (x ∷ xs) → Memᴰ q (x ∷ ys)) → Memᴰ q xs → Memᴰ q ys
tail-in x xs ys f q to m = ⊎_elim (λ e. absurd (omega (arith, f.0 q m))) (λ k. k) (mem-cases (to (mem-tail m)))

-- two falling lists with the same numbers are one
pub falling-one : (xs ys : List ℕ) → Falling xs → Falling ys → ((q : ℕ) → Memᴰ q xs ↔ Memᴰ q ys) → xs ≡ ys
falling-one [] [] f g same = refl
falling-one [] (y ∷ ys) f g same = absurd (mem-not_nil ((same y).1 (mem-head refl)))
falling-one (x ∷ xs) [] f g same = absurd (mem-not_nil ((same x).0 (mem-head refl)))
falling-one (x ∷ xs) (y ∷ ys) f g same = rw one (ap (λ l. y ∷ l) (falling-one xs ys f.1 g.1 (λ q.
    (tail-in y xs ys (rw one at f) q (rw one at (same q).0), tail-in y ys xs g q (rw one at (same q).1)))))
  where
    one : x ≡ y
    one = omega (arith, head-top y ys g x ((same x).0 (mem-head refl)), head-top x xs f y ((same y).1 (mem-head refl)))
