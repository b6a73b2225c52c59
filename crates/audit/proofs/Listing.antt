-- Free lists: a linked list that ends holds no page twice, so it holds each free block exactly when it has as many pages as there are free
-- blocks.
use Rattle.common.specs.Kit.{ℕ, zero, suc, ◌≤◌, ◌<◌, ◌≡◌, refl, sym, ap, ◌∙◌, subst, Bool, true, List, [], ◌∷◌, T, ltb, length, zero-add, ℕ_discrete, dec_lt, arith, eq-eqb, ne_eqb, eqb-true, ltb-true}
use mathlib.Core.Bool.{and-eq-true_iff}
use Rattle.common.specs.Numbers.{count}
use Rattle.common.proofs.Tests.{T_true, bool_iff}
use Rattle.common.proofs.Counts.{no-count, count_at, count_same, count-tight}
use Rattle.words.specs.Word.{no_page}
use Rattle.pages.specs.Said.{said, next_in}
use Rattle.pages.specs.Meaning.{free_order}
use Rattle.region.specs.Pages.{FreeBlock, Linked, occurs, FreeList, frees}
use Rattle.audit.specs.Decides.{Decides}
use Rattle.audit.specs.Check.{is_free, chain}
use Rattle.audit.proofs.Limit.{Bounded}
use Rattle.audit.proofs.Decisions.{decide-as, decide_eq, decide_T, decide-and}

pub decide-free : (ws : List ℕ) (M : ℕ → Bool) (o p : ℕ) → Decides (is_free ws M o p) (FreeBlock ws M o p)
unfolding is_free
decide-free ws M o p =
    decide-as (λ x. record { managed = x.0; is = x.1 }) (λ f. (f.managed, f.is))
    (decide-and (decide_T (M p)) (λ _. decide_eq (free_order (said ws p)) o))

module _ (ws : List ℕ) {M : ℕ → Bool} {e : ℕ} (bound : Bounded M e) (o : ℕ) where
  -- the list is a function of its head
  linked-same : (h : ℕ) (l m : List ℕ) → Linked ws M o h l → Linked ws M o h m → length l ≡ length m
  linked-same h [] [] k j = refl
  linked-same h [] (y ∷ m) k j = absurd (omega (arith, bound.pages, k, j.0, bound.below y j.1.managed))
  linked-same h (x ∷ l) [] k j = absurd (omega (arith, bound.pages, j, k.0, bound.below x k.1.managed))
  linked-same h (x ∷ l) (y ∷ m) k j =
      ap suc (linked-same (next_in (said ws y)) l m (subst (λ n. Linked ws M o (next_in (said ws n)) l) (sym k.0 ∙ j.0) k.2) j.2)

  -- from a page on the list, which is free, the rest is a list
  linked-from :
      (h : ℕ) (l : List ℕ) → Linked ws M o h l → (p : ℕ) → 0 < occurs p l →
      FreeBlock ws M o p × ((m : List ℕ) × Linked ws M o p m × (length m ≤ length l))
  linked-from h [] k p i = absurd (omega arith)
  linked-from h (x ∷ l) k p i =
      elim (ℕ_discrete x p) [
        | yes q ↦ (subst (FreeBlock ws M o) q k.1, (x ∷ l, (sym q, k.1, k.2), omega arith))
        | no n ↦
            let r = linked-from (next_in (said ws x)) l k.2 p (rw (ne_eqb x p n, zero-add) at i) in
            (r.0, (r.1.0, r.1.1, omega (arith, r.1.2)))
      ]

  -- so its head is not on it again, and no page is on it twice
  head-once : (h x : ℕ) (l : List ℕ) → Linked ws M o h (x ∷ l) → occurs x l ≡ 0
  head-once h x l k =
      elim (dec_lt 0 (occurs x l)) [
        | yes i ↦
            let r = (linked-from (next_in (said ws x)) l k.2 x i).1 in
            absurd (omega (arith, r.2, linked-same x (x ∷ l) r.0 (refl, k.1, k.2) r.1))
        | no i ↦ omega arith
      ]

  linked-once : (h : ℕ) (l : List ℕ) → Linked ws M o h l → (p : ℕ) → occurs p l ≤ 1
  linked-once h [] k p = omega arith
  linked-once h (x ∷ l) k p =
      elim (ℕ_discrete x p) [
        | yes q ↦ let none : occurs p l ≡ 0 = subst (λ n. occurs n l ≡ 0) q (head-once h x l k) in rw (eq-eqb x p q, none) (omega arith)
        | no n ↦ rw (ne_eqb x p n, zero-add) (linked-once (next_in (said ws x)) l k.2 p)
      ]

  -- whether a page is on a list
  abbrev on : List ℕ → ℕ → Bool
  on l p = ltb 0 (occurs p l)

  linked_long : (h : ℕ) (l : List ℕ) → Linked ws M o h l → count (on l) e ≡ length l
  linked_long h [] k = no-count (on []) e (λ p. refl)
  linked_long h (x ∷ l) k =
      let more = count_at (on (x ∷ l)) (on l) x e (bound.below x k.1.managed) (λ p n. rw (ne_eqb x p (λ q. n (sym q)), zero-add)) in
      omega (arith, rw (eq-eqb x x refl, head-once h x l k) at more, linked_long (next_in (said ws x)) l k.2)

  module _ (h : ℕ) (l : List ℕ) (k : Linked ws M o h l) where
    on-free : (p : ℕ) → T (on l p) → T (is_free ws M o p)
    on-free p t = rw ((decide-free ws M o p).back (linked-from h l k p (ltb-true _ _ (T_true _ t))).0) tt

    long-once : length l ≡ frees ws M e o → (p : ℕ) → FreeBlock ws M o p → occurs p l ≡ 1
    unfolding is_free
    long-once q p f =
        let here : T (is_free ws M o p) = rw ((decide-free ws M o p).back f) tt in
        let t = count-tight (on l) (is_free ws M o) e on-free (linked_long h l k ∙ q) p (bound.below p f.managed) here in
        omega (arith, linked-once h l k p, ltb-true 0 (occurs p l) (T_true _ t))

    once-long : ((p : ℕ) → FreeBlock ws M o p → occurs p l ≡ 1) → length l ≡ frees ws M e o
    unfolding is_free
    once-long once =
        sym (linked_long h l k)
        ∙ count_same (on l) (is_free ws M o) e (λ p _. bool_iff _ _ (on-free p) (λ t. rw (once p ((decide-free ws M o p).yes (T_true _ t))) tt))

  chain-linked : (n h : ℕ) → chain ws M o n h ≡ true → (l : List ℕ) × Linked ws M o h l × (length l ≡ n)
  unfolding chain
  chain-linked zero h t = ([], eqb-true h no_page t, refl)
  chain-linked (suc n) h t =
      let x = (and-eq-true_iff (is_free ws M o h) (chain ws M o n (next_in (said ws h)))).0 t in
      let r = chain-linked n (next_in (said ws h)) x.1 in
      (h ∷ r.0, (refl, (decide-free ws M o h).yes x.0, r.1), ap suc r.2)

  linked-chain : (h : ℕ) (l : List ℕ) → Linked ws M o h l → chain ws M o (length l) h ≡ true
  unfolding chain
  linked-chain h [] k = eq-eqb h no_page k
  linked-chain h (p ∷ l) k = rw (k.0, (decide-free ws M o p).back k.1) (linked-chain (next_in (said ws p)) l k.2)

  pub decide-list : (h : ℕ) → Decides (chain ws M o (frees ws M e o) h) (FreeList ws M o h)
  decide-list h =
      record {
        yes = λ t. let r = chain-linked (frees ws M e o) h t in record { list = r.0; linked = r.1; once = long-once h r.0 r.1 r.2 };
        back = λ f. rw (← once-long h f.list f.linked f.once) (linked-chain h f.list f.linked);
      }
