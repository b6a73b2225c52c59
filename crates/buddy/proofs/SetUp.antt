-- Rule 7: what set-up leaves is sound and clean; its managed pages are those from a up to e, all of them are free, and every list falls.
use Rattle.common.specs.Kit.{ℕ, zero, suc, ◌+◌, ◌-◌, ◌*◌, ◌/◌, ◌≤◌, ◌<◌, ◌≡◌, refl, sym, ◌∙◌, fun_ext, by_cases, Bool, ◌||◌, mem-not_nil, T, le_refl, ℕ_discrete, dec_lt, arith, eq-eqb, ne_eqb, lt-ltb, le-ltb}
use mathlib.Core.Bool.{or-false, or-true, or_comm}
use Rattle.common.specs.Numbers.{Falling}
use Rattle.common.proofs.Tests.{T_true}
use Rattle.common.proofs.Counts.{no-count}
use Rattle.buddy.specs.Runs.{cell, first, start}
use Rattle.buddy.specs.Heap.{free, used, Tag, tag, SoundHeap, Clean}
use Rattle.buddy.specs.Steps.{with_run, add}
use Rattle.buddy.specs.Rules.{State, empty, grow, grow_many, set_up_from, set_up, span}
use Rattle.buddy.proofs.RunLaws.{cell-zero, cell-start}
use Rattle.buddy.proofs.Tags.{kind-of}
use Rattle.buddy.proofs.Paint.{paint-out}
use Rattle.buddy.proofs.Free.{Freed, free-result}
use Rattle.buddy.proofs.Spans.{T-span, span-T, span-in, span-out, span_same, span-glue}
use Rattle.buddy.proofs.Add.{with_run-out, New, add-bound, add-out, add-sound}
use Rattle.buddy.proofs.Clean.{free-clean, add-clean}
use Rattle.buddy.proofs.Canon.{grows}
use Rattle.buddy.proofs.Falls.{Above, free-falls}

-- a state on the way: sound and clean, all managed pages lie below n and are free, and the lists fall
pub record Ready (n : ℕ) (s : State) : Type 0 where
  pub sound : SoundHeap s.managed n s.heap
  pub bound : (p : ℕ) → T (s.managed p) → p < n
  pub all-free : (p : ℕ) → T (s.managed p) → (s.heap.at p).kind ≡ free
  pub clean : Clean s.managed s.heap
  pub falls : (o : ℕ) → Falling (s.heap.list o)

pub empty-ready : (n : ℕ) → Ready n empty
unfolding empty
empty-ready n = record {
  sound = record {
    core = record {
      tiled = λ p t. absurd t;
      listed = λ o l. record { sound = λ p x. absurd (mem-not_nil x); full = λ p f. absurd f.managed; once = tt };
      counted = λ o l. sym (no-count _ n (λ p. refl));
    };
    apart = λ o p q l t _ _ _ _. absurd t;
  };
  bound = λ p t. absurd t;
  all-free = λ p t. absurd t;
  clean = record { tags = λ p t. refl; lists = λ o l. refl; counts = λ o l. refl };
  falls = λ o. tt;
}

-- a new run is added and freed
grow-ready : (n o c : ℕ) (s : State) → Ready n s → o ≤ 5 → New s.managed n o c → Above s.managed s.heap.at o c → Ready n (grow o c s)
unfolding grow add
grow-ready n o c s r l new above = record {
  sound = freed.sound;
  bound = bound;
  all-free = λ p t. by_cases (ℕ_discrete (cell o p) c)
      (freed.on p)
      (λ e. freed.stays p (kind-of (paint-out s.heap.at o c (tag o used) p e) ∙ r.all-free p (rw (with_run-out s.managed o c p e) at t)));
  clean = free-clean (add-clean r.clean o c l) bound (5 - o) o c (omega arith) added (add-out new s.heap);
  falls = free-falls r.sound new freed above r.falls;
}
  where
    bound : (p : ℕ) → T (with_run s.managed o c p) → p < n
    bound = add-bound new r.bound

    added : SoundHeap (with_run s.managed o c) n (add s.heap o c)
    added = add-sound new r.sound l

    freed : Freed (with_run s.managed o c) n (add s.heap o c) (grow o c s).heap o c
    freed = free-result bound (5 - o) (add s.heap o c) o c (omega arith) added (add-out new s.heap)

-- k runs of order o from number c on
module _ (o c : ℕ) (s : State) where
  pub grow_many-managed : (k p : ℕ) → (grow_many o c k s).managed p ≡ (span c (c + k) (cell o p) || s.managed p)
  unfolding grow_many grow with_run
  grow_many-managed zero p = rw (span-out c (c + 0) (cell o p) (omega arith))
  grow_many-managed (suc k) p = rw (grow_many-managed k p) (by_cases (ℕ_discrete (cell o p) (c + k))
      (λ e. rw (eq-eqb (cell o p) (c + k) e, span-in c (c + suc k) (cell o p) (omega arith) (omega arith)))
      (λ e. rw (ne_eqb (cell o p) (c + k) e, span_same c (c + k) (cell o p) c (c + suc k) (cell o p) (omega arith) (omega arith))))

  -- off these runs nothing changes
  grow_many-off : (k p : ℕ) → (c ≤ cell o p → cell o p < c + k → ⊥) → (grow_many o c k s).managed p ≡ s.managed p
  grow_many-off k p out = grow_many-managed k p ∙ rw (span-out c (c + k) (cell o p) out)

  grow_many-ready : (n k : ℕ) → Ready n s → o ≤ 5 → ((i : ℕ) → c ≤ i → i < c + k → New s.managed n o i)
      → ((i : ℕ) → i < k → Ready n (grow_many o c i s) → Above (grow_many o c i s).managed (grow_many o c i s).heap.at o (c + i))
      → Ready n (grow_many o c k s)
  unfolding grow_many
  grow_many-ready n zero r l new above = r
  grow_many-ready n (suc k) r l new above = next (grow_many-ready n k r l (λ i a b. new i a (omega arith)) (λ i x. above i (omega arith)))
    where
      run : New s.managed n o (c + k)
      run = new (c + k) (omega arith) (omega arith)

      next : Ready n (grow_many o c k s) → Ready n (grow_many o c (suc k) s)
      next before = grow-ready n o (c + k) (grow_many o c k s) before l
          (record { fresh = λ q e t. run.fresh q e (rw (grow_many-off k q (omega arith)) at t); room = run.room })
          (above k (omega arith) before)

-- Page p is added, of pages from a on, and page q, at p or above it, is managed before. The run of order 5 around q is managed all over, so q is
-- in a block of order 5; that around p begins below a with a page that is not managed, so p comes to no such block, and is not q.
record Over (M : ℕ → Bool) (a p q : ℕ) : Type 0 where
  whole : (x : ℕ) → cell 5 x ≡ cell 5 q → T (M x)
  below : start 5 p < a
  bare : T (M (start 5 p)) → ⊥

-- the pages from a up to e, one by one
module _ (a e : ℕ) (s : State) where
  pub single-managed : (p : ℕ) → (grow_many 0 a (e - a) s).managed p ≡ (span a e p || s.managed p)
  single-managed p = grow_many-managed 0 a s (e - a) p
      ∙ rw (span_same a (a + (e - a)) (cell 0 p) a e p (omega (arith, cell-zero p)) (omega (arith, cell-zero p)))

  -- after k of them
  module _ {n : ℕ} (k : ℕ) (r : Ready n (grow_many 0 a k s)) where
    abbrev M : ℕ → Bool
    M = (grow_many 0 a k s).managed

    abbrev at : ℕ → Tag
    at = (grow_many 0 a k s).heap.at

    order-five : (q : ℕ) → ((x : ℕ) → cell 5 x ≡ cell 5 q → T (s.managed x)) → 5 ≤ (at q).order
    order-five q whole = grows M at r.sound.core.tiled r.sound.apart 5 q (le_refl 5) (λ x e. (still x e, r.all-free x (still x e)))
      where
        still : (x : ℕ) → cell 5 x ≡ cell 5 q → T (M x)
        still x e = rw (grow_many-managed 0 a s k x, T_true (s.managed x) (whole x e), or-true (span a (a + k) (cell 0 x))) tt

    single-above : ((q : ℕ) → a + k ≤ q → T (s.managed q) → Over s.managed a (a + k) q) → Above M at 0 (a + k)
    unfolding first cell
    single-above over j q l f all = by_cases (dec_lt q (a + k)) (λ x. omega arith) (λ x.
        let o = over q (omega arith) (rw (grow_many-off 0 a s k q (omega arith)) at f.managed) in
        let five : j ≡ 5 = omega (arith, rw f.is at (order-five q o.whole)) in
        let y = start 5 (a + k) in
        let below : start 5 (a + k) < a = o.below in
        absurd (o.bare (rw (with_run-out M 0 (a + k) y (omega arith), grow_many-off 0 a s k y (omega arith)) at (rw five at (all y) (omega arith)))))

  single-ready : {n : ℕ} → Ready n s → e ≤ n → ((p q : ℕ) → a ≤ p → p < e → p ≤ q → T (s.managed q) → Over s.managed a p q)
      → Ready n (grow_many 0 a (e - a) s)
  single-ready {n} r l over = grow_many-ready 0 a s n (e - a) r (omega arith) (λ i x y. record {
    fresh = λ q k t.
        let o = over q q (omega (arith, cell-zero q)) (omega (arith, cell-zero q)) (le_refl q) t in
        o.bare (o.whole (start 5 q) (cell-start 5 q));
    room = λ q k. omega (arith, cell-zero q);
  }) (λ i x before. single-above i before (λ q. over (a + i) q (omega arith) (omega arith)))

-- the order 5 runs from number lo up to hi
module _ (lo hi : ℕ) where
  pub large-managed : (p : ℕ) → (grow_many 5 lo (hi - lo) empty).managed p ≡ span (lo * 32) (hi * 32) p
  unfolding empty cell
  large-managed p = grow_many-managed 5 lo empty (hi - lo) p ∙ or-false _
      ∙ span_same lo (lo + (hi - lo)) (p / 32) (lo * 32) (hi * 32) p (omega arith) (omega arith)

  large-in : (q : ℕ) → T ((grow_many 5 lo (hi - lo) empty).managed q) → (lo * 32 ≤ q) × (q < hi * 32)
  large-in q t = T-span (lo * 32) (hi * 32) q (rw (large-managed q) at t)

  large-ready : (e : ℕ) → hi * 32 ≤ e → Ready e (grow_many 5 lo (hi - lo) empty)
  unfolding empty cell first
  large-ready e l = grow_many-ready 5 lo empty e (hi - lo) (empty-ready e) (omega arith) (λ i x y. record {
    fresh = λ q k t. t;
    room = λ q k. omega arith;
  }) (λ i x r j q y f w. omega (arith, T-span lo (lo + i) (q / 32) (rw (grow_many-managed 5 lo empty i q, or-false _) at f.managed)))

-- what set-up leaves
pub record SetUp (a e : ℕ) (s : State) : Type 0 where
  pub managed : s.managed ≡ span a e
  pub sound : SoundHeap (span a e) e s.heap
  pub all-free : (p : ℕ) → T (span a e p) → (s.heap.at p).kind ≡ free
  pub clean : Clean (span a e) s.heap
  -- every list falls: its pages go down from the head on
  pub falls : (o : ℕ) → Falling (s.heap.list o)

ready-set-up : (a e : ℕ) (s : State) → Ready e s → ((p : ℕ) → s.managed p ≡ span a e p) → SetUp a e s
ready-set-up a e s r is = record {
  managed = m;
  sound = rw m at r.sound;
  all-free = λ p t. r.all-free p (rw (is p) t);
  clean = rw m at r.clean;
  falls = r.falls;
}
  where
    m : s.managed ≡ span a e
    m = fun_ext is

-- With whole order 5 runs: these, then the pages below them, then those above. Only that the lists fall rests on
-- the order of the two fringes.
module _ (a e lo hi : ℕ) (from : a ≤ lo * 32) (near : lo * 32 < a + 32) (some : lo < hi) (ends : hi * 32 ≤ e) where
  fringes-managed : (p : ℕ) → (set_up_from a e lo hi).managed p ≡ span a e p
  unfolding set_up_from
  fringes-managed p = rw (lt-ltb lo hi some, single-managed, single-managed, large-managed) (by_cases (dec_lt p (lo * 32))
      (λ l. rw (span-out (lo * 32) (hi * 32) p (omega arith), span-out (hi * 32) e p (omega arith))
      (or-false _ ∙ span_same a (lo * 32) p a e p (omega arith) (omega arith)))
      (λ l. rw (span-out a (lo * 32) p (omega arith)) (or_comm (span (hi * 32) e p) _ ∙ span-glue (lo * 32) (hi * 32) e p (omega arith) ends
      ∙ span_same (lo * 32) e p a e p (omega arith) (omega arith))))

  fringes-ready : Ready e (set_up_from a e lo hi)
  unfolding set_up_from first cell
  fringes-ready = rw (lt-ltb lo hi some) (single-ready _ _ _
      (single-ready _ _ _ (large-ready lo hi e ends) (omega arith) (λ p q x y l t. record {
        whole = λ r k. rw (large-managed lo hi r) (span-T (lo * 32) (hi * 32) r (omega (arith, large-in lo hi q t)) (omega (arith, large-in lo hi q t)));
        below = omega (arith, large-in lo hi q t);
        bare = λ b. omega (arith, large-in lo hi _ b);
      }))
      (omega arith)
      (λ p q x y l t. absurd (rw (single-managed, large-managed, span-out (lo * 32) (hi * 32) q (omega arith), span-out a (lo * 32) q (omega arith)) at t)))

  large-set-up : SetUp a e (set_up_from a e lo hi)
  large-set-up = ready-set-up a e _ fringes-ready fringes-managed

small-set-up : (a e : ℕ) → SetUp a e (grow_many 0 a (e - a) empty)
unfolding empty
small-set-up a e = ready-set-up a e _
    (single-ready a e empty (empty-ready e) (omega arith) (λ p q x y l t. absurd t))
    (λ p. single-managed a e empty p ∙ or-false (span a e p))

-- rule 7, a result
pub set-up : (a e : ℕ) → SetUp a e (set_up a e)
unfolding set_up set_up_from
set-up a e = by_cases (dec_lt ((a + 31) / 32) (e / 32))
    (λ l. large-set-up a e ((a + 31) / 32) (e / 32) (omega arith) (omega arith) l (omega arith))
    (λ l. rw (le-ltb ((a + 31) / 32) (e / 32) (omega arith)) (small-set-up a e))
