-- Rule 4 as one walk. Of the two halves on the list the lower one, its head, is taken off again at once, and to take off what was just put
-- on gives the heap back; so the lower half may as well stay in hand, and that is `down`.
use Rattle.common.specs.Kit.{ℕ, zero, suc, ◌+◌, ◌-◌, ◌*◌, ◌≤◌, ◌<◌, ◌≡◌, refl, sym, ◌∙◌, fun_ext, ◌≢◌, by_cases, List, [], ◌∷◌, zero-add, suc-add, ℕ_discrete, arith}
use Rattle.common.proofs.Lists.{update_same, update_other, remove-same}
use Rattle.buddy.specs.Runs.{cell, first}
use Rattle.buddy.specs.Heap.{free, used, tag, Heap}
use Rattle.buddy.specs.Steps.{push, take, halve, split}
use Rattle.buddy.specs.Rules.{Found, nothing, found, lowest, split_head, refill, Grant, refused, granted, grant_head, grant_from, allocate}
use Rattle.buddy.proofs.RunLaws.{cell-first, cell-low, cell-high}
use Rattle.buddy.proofs.Paint.{paint-in, paint-out}

-- from an equation of two different constructors anything follows
pub never : {A : Type 0} → ◌≡◌ {A = ℕ} 0 1 → A
never z = absurd (omega arith)

pub heap-path : (h g : Heap) → ((q : ℕ) → h.at q ≡ g.at q) → ((o : ℕ) → h.list o ≡ g.list o) → ((o : ℕ) → h.blocks o ≡ g.blocks o) → h ≡ g
heap-path h g a l b = λ i. record { at = fun_ext a i; list = fun_ext l i; blocks = fun_ext b i }

-- the lists after a push
module _ (h : Heap) (o c : ℕ) where
  pub push-head : (push h o c).list o ≡ first o c ∷ h.list o
  unfolding push
  push-head = update_same h.list o _ o refl

  pub push-other : (i : ℕ) → i ≢ o → (push h o c).list i ≡ h.list i
  unfolding push
  push-other i e = update_other h.list o _ i e

  -- a block out as an ordinary one is put on its list and taken off again
  pub take-push : ((q : ℕ) → cell o q ≡ c → h.at q ≡ tag o used) → take (push h o c) o c ≡ h
  unfolding push take
  take-push mine = heap-path _ h
      (λ q. by_cases (ℕ_discrete (cell o q) c)
      (λ e. paint-in _ o c (tag o used) q e ∙ sym (mine q e))
      (λ e. paint-out _ o c (tag o used) q e ∙ paint-out h.at o c (tag o free) q e))
      (λ i. by_cases (ℕ_discrete i o)
      (λ e. update_same _ o _ i e ∙ rw (push-head, remove-same (first o c) (first o c) (h.list o) refl, e))
      (λ e. update_other _ o _ i e ∙ push-other i e))
      (λ _. refl)

-- the block c out, of order o + 1, is split: the upper half goes on its list, and the lower one, c * 2, stays in hand
abbrev pub lower : Heap → ℕ → ℕ → Heap
lower h o c = push (halve h o c) o (c * 2 + 1)

module _ (h : Heap) (o c q : ℕ) where
  pub lower-on : cell o q ≡ c * 2 → (lower h o c).at q ≡ tag o used
  unfolding push halve
  lower-on e = paint-out _ o (c * 2 + 1) (tag o free) q (λ x. omega arith) ∙ paint-in h.at (suc o) c (tag o used) q (cell-low o c q e)

  pub upper-on : cell o q ≡ c * 2 + 1 → (lower h o c).at q ≡ tag o free
  unfolding push
  upper-on e = paint-in _ o (c * 2 + 1) (tag o free) q e

  pub lower-off : cell (suc o) q ≢ c → (lower h o c).at q ≡ h.at q
  unfolding push halve
  lower-off e = paint-out _ o (c * 2 + 1) (tag o free) q (λ x. e (cell-high o c q x)) ∙ paint-out h.at (suc o) c (tag o used) q e

-- the block c out, of order k + o, is split down to order o: each upper half goes on its list, and the lower one stays in hand
unfoldable pub down : ℕ → ℕ → Heap → ℕ → Heap × ℕ
down o zero h c = (h, c)
down o (suc k) h c = down o k (lower h (k + o) c) (c * 2)

abbrev pub as_grant : Heap × ℕ → Grant
as_grant r = granted r.0 r.1

grant_head-cons : (h : Heap) (o p : ℕ) (ps : List ℕ) → h.list o ≡ p ∷ ps → grant_head h o ≡ granted (take h o (cell o p)) (cell o p)
unfolding grant_head
grant_head-cons h o p ps e = rw (e, grant_head)

split_head-cons : (h : Heap) (o p : ℕ) (ps : List ℕ) → h.list (suc o) ≡ p ∷ ps
    → split_head h o ≡ split (take h (suc o) (cell (suc o) p)) o (cell (suc o) p)
unfolding split_head
split_head-cons h o p ps e = rw (e, split_head)

pub refill-down : (o k : ℕ) (h : Heap) (p : ℕ) (ps : List ℕ) → h.list (k + o) ≡ p ∷ ps
    → grant_head (refill h o k) o ≡ as_grant (down o k (take h (k + o) (cell (k + o) p)) (cell (k + o) p))
unfolding refill down split
refill-down o zero h p ps e = rw (zero-add o) (grant_head-cons h o p ps (rw (zero-add o) at e))
refill-down o (suc k) h p ps e =
    let c = cell (suc (k + o)) p in
    let g = take h (suc (k + o)) c in
    rw (suc-add k o, split_head-cons h (k + o) p ps (rw (suc-add k o) at e))
    (refill-down o k (push (lower g (k + o) c) (k + o) (c * 2)) _ _ (push-head (lower g (k + o) c) (k + o) (c * 2))
    ∙ rw (cell-first (k + o) (c * 2), take-push (lower g (k + o) c) (k + o) (c * 2) (lower-on g (k + o) c)))

-- list i is the lowest from j on, of `left` orders, that is not empty
record Lowest (h : Heap) (left j i : ℕ) : Type 0 where
  from : j ≤ i
  below : i < j + left
  empty : (x : ℕ) → j ≤ x → x < i → h.list x ≡ []
  head : ℕ
  rest : List ℕ
  is : h.list i ≡ head ∷ rest

abbrev Searched : Heap → ℕ → ℕ → Found → Type 0
Searched h left j nothing = (x : ℕ) → j ≤ x → x < j + left → h.list x ≡ []
Searched h left j (found i) = Lowest h left j i

searched : (h : Heap) (left j : ℕ) → Searched h left j (lowest h left j)
unfolding lowest
searched h zero j = λ x a b. absurd (omega arith)
searched h (suc left) j = go (h.list j) refl (lowest h left (suc j)) refl (searched h left (suc j))
  where
    go : (l : List ℕ) → h.list j ≡ l → (f : Found) → lowest h left (suc j) ≡ f → Searched h left (suc j) f
        → Searched h (suc left) j (lowest h (suc left) j)
    go (p ∷ ps) e _ _ _ = rw (e, lowest) (record {
      from = omega arith;
      below = omega arith;
      empty = λ x a b. absurd (omega arith);
      head = p;
      rest = ps;
      is = e;
    })
    go [] e nothing k f = rw (e, lowest, k) (λ x a b. by_cases (ℕ_discrete x j) (λ y. rw y e) (λ y. f x (omega arith) (omega arith)))
    go [] e (found i) k f = rw (e, lowest, k) (record {
      from = omega (arith, f.from);
      below = omega (arith, f.below);
      empty = λ x a b. by_cases (ℕ_discrete x j) (λ y. rw y e) (λ y. f.empty x (omega arith) b);
      head = f.head;
      rest = f.rest;
      is = f.is;
    })

-- the two ways through rule 4: all lists from o on are empty; or list k + o is the lowest that is not, and its head is split down
pub data Allocated (h : Heap) (o : ℕ) : Grant → Type 0 where
  none : ((j : ℕ) → o ≤ j → j ≤ 5 → h.list j ≡ []) → Allocated h o refused
  some : (k p : ℕ) (ps : List ℕ) → k + o ≤ 5 → h.list (k + o) ≡ p ∷ ps → ((i : ℕ) → o ≤ i → i < k + o → h.list i ≡ [])
      → Allocated h o (as_grant (down o k (take h (k + o) (cell (k + o) p)) (cell (k + o) p)))

pub allocated : (h : Heap) (o : ℕ) → Allocated h o (allocate h o)
unfolding allocate grant_from
allocated h o = go (lowest h (6 - o) o) (searched h (6 - o) o)
  where
    go : (f : Found) → Searched h (6 - o) o f → Allocated h o (grant_from h o f)
    go nothing f = none (λ j a b. f j a (omega arith))
    go (found j) f =
        let e : j ≡ j - o + o = omega (arith, f.from) in
        let is : h.list (j - o + o) ≡ f.head ∷ f.rest = rw (← e) f.is in
        rw (refill-down o (j - o) h f.head f.rest is)
        (some (j - o) f.head f.rest (omega (arith, f.from, f.below)) is (λ i a b. f.empty i a (omega (arith, f.from))))
