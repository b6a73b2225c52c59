-- The invariant of histories, `Kept`: the blocks that are out on the heap are those that are still out by the log, each of them once, and each is
-- of the kind that the log granted it as. Every call keeps it.
use Rattle.common.specs.Kit.{ℕ, suc, ◌+◌, ◌≤◌, ◌<◌, ◌≡◌, refl, sym, ◌∙◌, ◌≢◌, ◌↔◌, ⊎_elim, by_cases, Bool, List, [], ◌∷◌, ◌++◌, Memᴰ, mem-head, mem-tail, mem-cases, mem-not_nil, T, ℕ_discrete, arith, eq-eqb, ne_eqb}
use Rattle.common.specs.Numbers.{Once}
use Rattle.common.proofs.Lists.{mem-of-remove, not-removed, mem-remove, once-remove}
use Rattle.buddy.specs.Runs.{cell, first}
use Rattle.buddy.specs.Heap.{Kind, free, used, slab, file, Heap, SoundHeap}
use Rattle.buddy.specs.Rules.{recount}
use Rattle.buddy.specs.Request.{Request}
use Rattle.buddy.specs.History.{Outcome, call, Event, took, gave, got, left, event, written, Moment, next, after, still_out, gets, puts, granted_as}
use Rattle.buddy.specs.Demand.{Out}
use Rattle.buddy.proofs.RunLaws.{cell-first, head-is, head-unique}
use Rattle.buddy.proofs.Tags.{order-of}
use Rattle.buddy.proofs.Free.{Freed}
use Rattle.buddy.proofs.Grant.{Granted}
use Rattle.buddy.proofs.Pages.{OutHead, out-block, FilePage, file-out, recount-sound, recount-on, recount-off, recount-heads}
use Rattle.buddy.proofs.Calls.{Asks, plain, filed, slabbed, granted-head, Called, refuse, grant, return, more, less, last, called}

-- what the log says of page p, if it is out as this
abbrev pub As : List Event → ℕ → Kind → Type 0
As es p free = ⊥
As es p used = granted_as es p ≡ used
As es p (slab i) = granted_as es p ≡ slab i
As es p (file n) = (granted_as es p ≡ file 1) × (n + puts es p ≡ 1 + gets es p)

pub record Kept (M : ℕ → Bool) (n : ℕ) (m : Moment) : Type 0 where
  pub sound : SoundHeap M n m.heap
  pub real : (o p : ℕ) → Out M m o p → OutHead M m.heap.at o p
  pub full : (o p : ℕ) → OutHead M m.heap.at o p → Out M m o p
  pub once : (o : ℕ) → Once (still_out m.log o)
  pub kinds : (o p : ℕ) → OutHead M m.heap.at o p → As m.log p (m.heap.at p).kind

-- logs that say the same of page p
as_same : (es fs : List Event) (p : ℕ) → granted_as fs p ≡ granted_as es p → puts fs p ≡ puts es p → gets fs p ≡ gets es p
    → (k : Kind) → As es p k → As fs p k
as_same es fs p g a b free x = x
as_same es fs p g a b used x = g ∙ x
as_same es fs p g a b (slab i) x = g ∙ x
as_same es fs p g a b (file i) x = (g ∙ x.0, omega (arith, x.1))

-- the log says at once what a block was granted as
asks-as : {x : Request} {o : ℕ} {k : Kind} → Asks x o k → (es : List Event) (p : ℕ) → As (took k o p ∷ es) p k
unfolding granted_as puts gets
asks-as (plain _) es p = rw (eq-eqb p p refl)
asks-as filed es p = rw (eq-eqb p p refl) (refl, refl)
asks-as (slabbed _) es p = rw (eq-eqb p p refl)

-- the log after a grant
module _ (k : Kind) (o p : ℕ) (es : List Event) where
  took-here : (j : ℕ) → o ≡ j → still_out (took k o p ∷ es) j ≡ p ∷ still_out es j
  unfolding still_out
  took-here j e = rw (eq-eqb o j e)

  took-other : (j : ℕ) → o ≢ j → still_out (took k o p ∷ es) j ≡ still_out es j
  unfolding still_out
  took-other j e = rw (ne_eqb o j e)

  took-as : (q : ℕ) → q ≢ p → (i : Kind) → As es q i → As (took k o p ∷ es) q i
  unfolding granted_as puts gets
  took-as q e = as_same es (took k o p ∷ es) q (rw (ne_eqb p q (λ x. e (sym x)))) (rw (ne_eqb p q (λ x. e (sym x)))) (rw (ne_eqb p q (λ x. e (sym x))))

module _ {M : ℕ → Bool} {n : ℕ} {m : Moment} {x : Request} {o : ℕ} {k : Kind} {g : Heap} {c : ℕ} (kept : Kept M n m) (asks : Asks x o k)
    (r : Granted M n m.heap g o c k) where
  abbrev h : Heap
  h = m.heap

  abbrev es : List Event
  es = m.log

  abbrev p : ℕ
  p = first o c

  new : (j q : ℕ) → OutHead M h.at j q → OutHead M g.at j q
  new j q f =
      let same = r.others q f.busy in
      record { managed = f.managed; order = rw same f.order; busy = rw same f.busy; head = f.head }

  old : (j q : ℕ) → OutHead M g.at j q → cell o q ≢ c → OutHead M h.at j q
  old j q f e =
      let was : (h.at q).kind ≢ free = λ x. f.busy (r.stays q x e) in
      record { managed = f.managed; order = rw (r.others q was) at f.order; busy = was; head = f.head }

  -- on the run there is no other
  only : (j q : ℕ) → OutHead M g.at j q → cell o q ≡ c → (o ≡ j) × (q ≡ p)
  only j q f e =
      let s : o ≡ j = sym (order-of (r.on q e)) ∙ f.order in
      (s, head-is o c q (rw s f.head) e)

  grant-full : (j q : ℕ) → Memᴰ q (still_out es j) → Memᴰ q (still_out (took k o p ∷ es) j)
  grant-full j q x = by_cases (ℕ_discrete o j) (λ e. rw (took-here k o p es j e) (mem-tail x)) (λ e. rw (took-other k o p es j e) x)

  grant-kept : Kept M n (record { heap = g; log = took k o p ∷ es })
  grant-kept = record {
    sound = r.sound;
    real = λ j q x. by_cases (ℕ_discrete o j)
        (λ e. ⊎_elim (λ (y : q ≡ p). rw (y, ← e) (granted-head asks r)) (λ y. new j q (kept.real j q y))
        (mem-cases (rw (took-here k o p es j e) at x)))
        (λ e. new j q (kept.real j q (rw (took-other k o p es j e) at x)));
    full = λ j q f. by_cases (ℕ_discrete (cell o q) c)
        (λ e. rw (took-here k o p es j (only j q f e).0) (mem-head (only j q f e).1))
        (λ e. grant-full j q (kept.full j q (old j q f e)));
    once = λ j. by_cases (ℕ_discrete o j)
        (λ e. rw (took-here k o p es j e) ((λ x. (kept.real j p x).busy (r.was p (cell-first o c)).1), kept.once j))
        (λ e. rw (took-other k o p es j e) (kept.once j));
    kinds = λ j q f. by_cases (ℕ_discrete (cell o q) c)
        (λ e. rw (r.on q e, (only j q f e).1) (asks-as asks es p))
        (λ e. let f' = old j q f e in
        rw (r.others q f'.busy) (took-as k o p es q (λ y. e (rw y (cell-first o c))) (h.at q).kind (kept.kinds j q f')));
  }

-- a return
module _ {M : ℕ → Bool} {n : ℕ} {m : Moment} {o p : ℕ} {g : Heap} (kept : Kept M n m) (f₀ : OutHead M m.heap.at o p)
    (r : Freed M n m.heap g o (cell o p)) where
  back : (j q : ℕ) → OutHead M g.at j q → OutHead M m.heap.at j q
  back j q f =
      let was : (m.heap.at q).kind ≢ free = λ x. f.busy (r.stays q x) in
      let off : cell o q ≢ cell o p = λ x. f.busy (r.on q x) in
      record { managed = f.managed; order = rw (r.others q was off) at f.order; busy = was; head = f.head }

  -- another block out is off the run, and stays
  stays : (j q : ℕ) → q ≢ p → OutHead M m.heap.at j q → OutHead M g.at j q
  stays j q ne f = record { managed = f.managed; order = rw same f.order; busy = rw same f.busy; head = f.head }
    where
      off : cell o q ≢ cell o p
      off e =
          let run = out-block kept.sound.core.tiled f₀ in
          let s : j ≡ o = sym f.order ∙ run.cut.order q e in
          ne (head-unique o q p (rw (← s) f.head) f₀.head e)

      same : g.at q ≡ m.heap.at q
      same = r.others q f.busy off

  return_kept : Kept M n (record { heap = g; log = gave p ∷ m.log })
  unfolding still_out granted_as puts gets
  return_kept = record {
    sound = r.sound;
    real = λ j q x. stays j q (λ e. not-removed p (still_out m.log j) (kept.once j) (rw e at x)) (kept.real j q (mem-of-remove p q _ x));
    full = λ j q f. mem-remove p q (still_out m.log j) (λ e. f.busy (r.on q (rw e))) (kept.full j q (back j q f));
    once = λ j. once-remove p (still_out m.log j) (kept.once j);
    kinds = λ j q f. let b = back j q f in
        rw (r.others q b.busy (λ e. f.busy (r.on q e)))
        (as_same m.log (gave p ∷ m.log) q refl refl refl (m.heap.at q).kind (kept.kinds j q b));
  }

-- what is written of a get, or of a put that is not the last: the count of page p goes from i to j, and of nothing else
record Counts (e : Event) (p i j : ℕ) : Type 0 where
  out : (es : List Event) (o : ℕ) → still_out (e ∷ es) o ≡ still_out es o
  granted : (es : List Event) (q : ℕ) → granted_as (e ∷ es) q ≡ granted_as es q
  puts-off : (es : List Event) (q : ℕ) → q ≢ p → puts (e ∷ es) q ≡ puts es q
  gets-off : (es : List Event) (q : ℕ) → q ≢ p → gets (e ∷ es) q ≡ gets es q
  on : (es : List Event) → i + puts es p ≡ 1 + gets es p → j + puts (e ∷ es) p ≡ 1 + gets (e ∷ es) p

got-counts : (p i : ℕ) → Counts (got p) p i (i + 1)
unfolding still_out granted_as puts gets
got-counts p i = record {
  out = λ es o. refl;
  granted = λ es q. refl;
  puts-off = λ es q ne. refl;
  gets-off = λ es q ne. rw (ne_eqb p q (λ x. ne (sym x)));
  on = λ es e. rw (eq-eqb p p refl) (omega arith);
}

left-counts : (p i : ℕ) → Counts (left p) p (suc i) i
unfolding still_out granted_as puts gets
left-counts p i = record {
  out = λ es o. refl;
  granted = λ es q. refl;
  puts-off = λ es q ne. rw (ne_eqb p q (λ x. ne (sym x)));
  gets-off = λ es q ne. refl;
  on = λ es e. rw (eq-eqb p p refl) (omega arith);
}

-- a get, or a put that is not the last
recount-kept : {M : ℕ → Bool} {n : ℕ} {m : Moment} {e : Event} {p i j : ℕ} → Kept M n m → FilePage M m.heap.at p i → 1 ≤ j → Counts e p i j
    → Kept M n (record { heap = recount m.heap p j; log = e ∷ m.log })
recount-kept {M} {n} {m} {e} {p} {i} {j} kept f₀ l c = record {
  sound = recount-sound kept.sound f₀ j l;
  real = λ o q x. (heads o q).0 (kept.real o q (rw (c.out m.log o) at x));
  full = λ o q f. rw (c.out m.log o) (kept.full o q ((heads o q).1 f));
  once = λ o. rw (c.out m.log o) (kept.once o);
  kinds = λ o q f. by_cases (ℕ_discrete q p)
      (λ x. let was = rw f₀.is at (kept.kinds 0 p (file-out f₀)) in
      rw (x, recount-on kept.sound f₀ j) (c.granted m.log p ∙ was.0, c.on m.log was.1))
      (λ x. rw (recount-off kept.sound f₀ j q x) (as_same m.log (e ∷ m.log) q (c.granted m.log q)
      (c.puts-off m.log q x) (c.gets-off m.log q x) (m.heap.at q).kind (kept.kinds o q ((heads o q).1 f))));
}
  where
    heads : (o q : ℕ) → OutHead M m.heap.at o q ↔ OutHead M (recount m.heap p j).at o q
    heads = recount-heads kept.sound f₀ j l

event-grant : {x : Request} {o : ℕ} {k : Kind} → Asks x o k → (p : ℕ) → event x p ≡ took k o p
event-grant (plain _) p = refl
event-grant filed p = refl
event-grant (slabbed _) p = refl

module _ {M : ℕ → Bool} {n : ℕ} (bound : (p : ℕ) → T (M p) → p < n) where
  next-kept : (m : Moment) (x : Request) → Kept M n m → Kept M n (next M m x)
  unfolding next written
  next-kept m x kept = go x (call M m.heap x) (called bound m.heap kept.sound x)
    where
      go : (x : Request) (r : Outcome) → Called M n m.heap x r → Kept M n (record { heap = r.heap; log = written x r.answer ++ m.log })
      go x _ refuse = kept
      go x _ (grant {o = o} {c = c} a r _) = rw (event-grant a (first o c)) (grant-kept kept a r)
      go _ _ (return f r) = return_kept kept f r
      go _ _ (more {p} {i} f) = recount-kept kept f (omega arith) (got-counts p i)
      go _ _ (less {p} {i} f) = rw (ne_eqb (suc i) 0 (omega arith)) (recount-kept kept f (omega arith) (left-counts p (suc i)))
      go _ _ (last f r) = return_kept kept (file-out f) r

  pub after_kept : (h : Heap) → SoundHeap M n h → ((p : ℕ) → T (M p) → (h.at p).kind ≡ free) → (cs : List Request) → Kept M n (after M h cs)
  unfolding after still_out
  after_kept h s all [] = record {
    sound = s;
    real = λ o p x. absurd (mem-not_nil x);
    full = λ o p f. absurd (f.busy (all p f.managed));
    once = λ o. tt;
    kinds = λ o p f. absurd (f.busy (all p f.managed));
  }
  after_kept h s all (x ∷ cs) = next-kept (after M h cs) x (after_kept h s all cs)
