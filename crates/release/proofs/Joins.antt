-- The buddy, the merge with it and the recursion up the orders, taken one step.
use Rattle.common.specs.Kit.{ℕ, suc, ◌+◌, ◌-◌, ◌≤◌, ◌<◌, ◌≡◌, refl, sym, ◌∙◌, Bool, true, false, cond, true≢false, eqb, ltb, add-one, arith, ne_eqb, ltb-true, ltb-false, Option, Some, None}
use Rattle.common.proofs.Tests.{by-test}
use Rattle.pages.specs.Said.{said}
use Rattle.pages.specs.Meaning.{no_order, free_order}
use Rattle.region.specs.Pages.{buddy_of}
use Rattle.region.specs.State.{State, st, Gives, lower, put_head, PutOk}
use Rattle.region.specs.Steps.{neighbor, joins, join, try_page, try_join, TryOk, free_from, FreeOk}

-- an answer that is a page came by a test that held, and Nothing by one that failed
at_true : {x : Option ℕ} {q : ℕ} (b : Bool) → cond b x None ≡ Some q → (b ≡ true) × (x ≡ Some q)
at_true true e = (refl, e)
at_true false e = let z : ◌≡◌ {A = ℕ} 0 1 = cc in absurd (omega arith)

nothing_false : (q : ℕ) (b : Bool) → cond b (Some q) None ≡ None → b ≡ false
nothing_false q true e = let z : ◌≡◌ {A = ℕ} 0 1 = cc in absurd (omega arith)
nothing_false q false e = refl

-- orders below 5, and 5 and above, by the steps that are left
by_order : {P : Type 0} (o : ℕ) → (o < 5 → 5 - o ≡ suc (5 - (o + 1)) → P) → (5 ≤ o → 5 - o ≡ 0 → P) → P
by_order o f g =
    by-test (ltb o 5)
    (λ t. let h : o < 5 = ltb-true _ _ t in f h (omega arith))
    (λ t. let h : 5 ≤ o = ltb-false _ _ t in g h (omega arith))

-- a page that was found is the buddy, and inside
pub record Mate (n p o q : ℕ) : Type 0 where
  pub small : o < 5
  pub is : q ≡ buddy_of o p
  pub inside : q < n

pub mate : {n p o q : ℕ} → neighbor n p o ≡ Some q → Mate n p o q
unfolding neighbor
mate {n} {p} {o} {q} e =
    let a = at_true (ltb o 5) e in
    let b = at_true (ltb (buddy_of o p) n) a.1 in
    let c : q ≡ buddy_of o p = cc in record { small = ltb-true _ _ a.0; is = c; inside = rw c (ltb-true _ _ b.0) }

module _ (p o : ℕ) (s : State) where
  -- no merge where there is no buddy
  pub joins-none : neighbor s.reg.page_count p o ≡ None → joins p o s ≡ false
  unfolding joins
  joins-none e = rw e

  -- with a buddy, it goes by the order that its word tells
  pub joins_at :
      {x : ℕ} (q : ℕ) → neighbor s.reg.page_count p o ≡ Some q → free_order (said s.ws q) ≡ x → joins p o s ≡ eqb x o
  unfolding joins
  joins_at q e f = rw (e, f)

  pub joins-other : (q : ℕ) → neighbor s.reg.page_count p o ≡ Some q → free_order (said s.ws q) ≡ no_order → joins p o s ≡ false
  joins-other q e f = joins_at q e f ∙ ne_eqb no_order o (λ z. omega (arith, (mate e).small))

  joins-below : joins p o s ≡ true → o < 5
  unfolding joins neighbor
  joins-below j = by-test (ltb o 5) (λ t. ltb-true _ _ t) (λ t. absurd (true≢false (sym j ∙ rw t)))

  joins-top : 5 ≤ o → joins p o s ≡ false
  joins-top h = by-test (joins p o s) (λ j. absurd (omega (arith, joins-below j))) (λ j. j)

  pub kept : joins p o s ≡ false → Gives (try_page p o s) (try_join p o s) None s
  kept j = simp j (record { answers = refl; leaves = refl })

  try-none : try_page p o s ≡ None → joins p o s ≡ false
  try-none e = nothing_false _ (joins p o s) e

  try-some : (q : ℕ) → try_page p o s ≡ Some q → (joins p o s ≡ true) × (q ≡ lower p (buddy_of o p))
  try-some q e = let a = at_true (joins p o s) e in (a.0, let b = a.1 in cc)

  -- at order 5 nothing joins, so both recursions have one form at every order
  free_step :
      free_from (5 - o) p o s
      ≡ cond (joins p o s) (free_from (5 - (o + 1)) (lower p (buddy_of o p)) (o + 1) (join p o s)) (put_head p o s)
  unfolding free_from
  free_step = by_order o (λ h e. rw (e, add-one o)) (λ h e. rw (e, joins-top h))

  pub ok_step :
      FreeOk (5 - o) p o s →
      TryOk p o s
      × ((joins p o s ≡ true → FreeOk (5 - (o + 1)) (lower p (buddy_of o p)) (o + 1) (join p o s)) × (joins p o s ≡ false → PutOk p o s))
  unfolding FreeOk
  ok_step f =
      by_order o
      (λ h e. rw (add-one o) (rw (e, add-one o) at f))
      (λ h e. let g = rw e at f in (g.0, (λ j. absurd (omega (arith, joins-below j)), λ j. g.1)))

  -- trying gave no page: the block is put on its list in the state s', of the record as it was and the words that trying left
  pub record Stays (s' : State) : Type 0 where
    pub ok : FreeOk (5 - o) p o s → PutOk p o s'
    pub freed : free_from (5 - o) p o s ≡ put_head p o s'

  pub stays : {s' : State} {a : Option ℕ} → Gives (try_page p o s) (try_join p o s) a s' → a ≡ None → Stays (st s.reg s'.ws)
  stays {s'} tried e =
      let j = try-none (sym tried.answers ∙ e) in
      let same : st s.reg s'.ws ≡ s = rw (simp j at tried.leaves) in
      record { ok = λ f. rw same ((ok_step f).1.1 j); freed = free_step ∙ rw (j, same) }

  -- trying gave page q: the block there is freed in the state s', one order up
  pub record Goes (q : ℕ) (s' : State) : Type 0 where
    pub small : o < 5
    pub ok : FreeOk (5 - o) p o s → FreeOk (5 - (o + 1)) q (o + 1) s'
    pub freed : free_from (5 - o) p o s ≡ free_from (5 - (o + 1)) q (o + 1) s'

  pub goes : {s' : State} {a : Option ℕ} {q : ℕ} → Gives (try_page p o s) (try_join p o s) a s' → a ≡ Some q → Goes q s'
  goes {s'} {a} {q} tried e =
      let j = try-some q (sym tried.answers ∙ e) in
      let same : s' ≡ join p o s = simp j.0 at tried.leaves in
      record {
        small = joins-below j.0;
        ok = λ f. rw (same, j.1) ((ok_step f).1.0 j.0);
        freed = free_step ∙ rw (j.0, same, j.1);
      }
