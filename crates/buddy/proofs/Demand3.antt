-- The theorems: from a set-up on, at every moment of every history, demand 3 holds, returns are what they should be and the heap is sound.
-- All follow from the invariant of histories.
use Rattle.common.specs.Kit.{ℕ, suc, ◌≤◌, ◌<◌, ◌≡◌, refl, sym, ◌∙◌, ◌≢◌, inl, inr, by_cases, Bool, List, [], ◌∷◌, mem-not_nil, T, arith}
use Rattle.buddy.specs.Runs.{cell, first, start, Head, buddy}
use Rattle.buddy.specs.Heap.{Kind, free, used, slab, file, Tag, Block, SoundHeap, Clean}
use Rattle.buddy.specs.Rules.{set_up, span}
use Rattle.buddy.specs.Request.{Request, for_block, for_file, for_slab, on, to_free, to_get, to_put}
use Rattle.buddy.specs.History.{done, page, counted, Outcome, call, Moment, next, after, still_out, gets, puts, granted_as}
use Rattle.buddy.specs.Demand.{Free, Out, Stands, InOne, Clear, StillAs, Demand3, Returns}
use Rattle.buddy.proofs.RunLaws.{cell-suc, cell-first, cell-start, head-start, head-is, buddy-half, buddy-not}
use Rattle.buddy.proofs.Tags.{order-of, kind-of}
use Rattle.buddy.proofs.Spans.{T-span}
use Rattle.buddy.proofs.SetUp.{set-up}
use Rattle.buddy.proofs.Clear.{AllFree, order_small, free-head}
use Rattle.buddy.proofs.Totals.{totals}
use Rattle.buddy.proofs.Refill.{never}
use Rattle.buddy.proofs.Grant.{refused-iff}
use Rattle.buddy.proofs.Pages.{free?, FilePage, file-page, file-out}
use Rattle.buddy.proofs.Calls.{give-out, put-file, Asks, plain, filed, slabbed, Called, refuse, grant, return, more, less, last, called, paged}
use Rattle.buddy.proofs.CleanCalls.{call-clean}
use Rattle.buddy.proofs.Kept.{As, Kept, after_kept}

-- the order that a call asks for; the calls that ask for no block never answer a page
abbrev pub order_of : Request → ℕ
order_of (for_block o) = o
order_of for_file = 0
order_of (for_slab i) = 0
order_of (on to_free p) = 0
order_of (on to_get p) = 0
order_of (on to_put p) = 0

asks-order : {x : Request} {o : ℕ} {k : Kind} → Asks x o k → order_of x ≡ o
asks-order (plain _) = refl
asks-order filed = refl
asks-order (slabbed _) = refl

module _ {M : ℕ → Bool} {n : ℕ} {m : Moment} (bound : (p : ℕ) → T (M p) → p < n) (kept : Kept M n m) where
  abbrev at : ℕ → Tag
  at = m.heap.at

  -- a block that stands, by its first page
  record Says (o s : ℕ) : Type 0 where
    managed : T (M s)
    order : (at s).order ≡ o
    head : Head o s

  says : (o s : ℕ) → Stands M m o s → Says o s
  says o s (inl x) =
      let f = (kept.sound.core.listed o x.0).sound s x.1 in
      record { managed = f.managed; order = order-of f.is; head = f.head }
  says o s (inr x) = let f = kept.real o s x in record { managed = f.managed; order = f.order; head = f.head }

  same_tag : (o s q : ℕ) → Says o s → cell o q ≡ cell o s → T (M q) × (at q ≡ at s)
  same_tag o s q f e =
      let b = kept.sound.core.tiled s f.managed in
      let near : cell (at s).order q ≡ cell (at s).order s = rw f.order e in
      (b.inside q near, b.same q near)

  -- the block around a managed page
  module _ (p : ℕ) (t : T (M p)) where
    abbrev o : ℕ
    o = (at p).order

    abbrev b : Block M at p
    b = kept.sound.core.tiled p t

    busy-out : (at p).kind ≢ free → Out M m o (start o p)
    busy-out busy =
        let same : at (start o p) ≡ at p = b.same _ (cell-start o p) in
        kept.full o (start o p) (record { managed = b.inside _ (cell-start o p); order = order-of same; busy = rw same busy; head = head-start o p })

    one_only : (j s : ℕ) → Says j s → cell j p ≡ cell j s → (j ≡ o) × (s ≡ start o p)
    one_only j s f e =
        let jo : j ≡ o = sym f.order ∙ sym (order-of (same_tag j s p f e).1) in
        (jo, head-is o (cell o p) s (rw jo at f.head) (sym (rw jo at e)))

    tile : InOne (Free M m) (Out M m) p
    tile = record {
      order = o;
      head = start o p;
      stands = by_cases (free? (at p).kind)
          (λ e. inl (small, (kept.sound.core.listed o small).full _ (free-head M at kept.sound.core.tiled p t e)))
          (λ e. inr (busy-out e));
      holds = sym (cell-start o p);
      only = λ j s x e. one_only j s (says j s x) e;
      not-both = λ x y. (kept.real o _ y).busy (kind-of ((kept.sound.core.listed o small).sound _ x.1).is);
    }
      where
        small : o ≤ 5
        small = order_small M at kept.sound.core.tiled p t

  -- clear by the log is free by the tags
  pub clear-free : (o c : ℕ) → Clear M m o c → AllFree M at o c
  clear-free o c f q e = (
    (f q e).0,
    by_cases (free? (at q).kind) (λ x. x)
        (λ x. absurd ((f q e).1 (at q).order (start (at q).order q) (busy-out q (f q e).0 x) (sym (cell-start (at q).order q)))),
  )

  pub free-clear : (o c : ℕ) → AllFree M at o c → Clear M m o c
  free-clear o c f q e = ((f q e).0, λ j s x y. (kept.real j s x).busy (sym (kind-of (same_tag j s q (says j s (inr x)) y).1) ∙ (f q e).1))

  still-as : (s : ℕ) (now : Kind) → As m.log s now → StillAs M m (granted_as m.log s) s now
  still-as s free x = absurd x
  still-as s used x = rw x
  still-as s (slab i) x = rw x
  still-as s (file i) x = rw x.0 (i, refl, x.1)

  kept-demand3 : Demand3 M m n
  kept-demand3 = record {
    tile = tile;
    once = kept.once;
    aligned = λ o s x. (says o s x).head;
    inside = λ o s q x e. (same_tag o s q (says o s x) e).0;
    totals = totals M n bound m.heap kept.sound.core;
    apart = λ o c l x y.
        let f = (kept.sound.core.listed o x.0).sound _ x.1 in
        let g = (kept.sound.core.listed o x.0).sound _ y.1 in
        let p = first o c in
        let q = first o (buddy c) in
        let up : cell (suc o) p ≡ cell (suc o) q = omega (arith, cell-suc o p, cell-suc o q, cell-first o c, cell-first o (buddy c), buddy-half c) in
        buddy-not c (sym (cell-first o (buddy c)) ∙ sym (kept.sound.apart o p q l f.managed g.managed f.is g.is up) ∙ cell-first o c);
    want = λ o l. let r = refused-iff kept.sound bound o l in
        (λ e c f. r.0 e c (clear-free o c f), λ f. r.1 (λ c x. f c (free-clear o c x)));
    kinds = λ o s x. still-as s (at s).kind (kept.kinds o s (kept.real o s x));
  }

  returned : (p : ℕ) (x : Request) (r : Outcome) → Called M n m.heap x r → x ≡ on to_free p → r.answer ≡ done → (o : ℕ) × Out M m o p
  returned p x _ refuse e d = never (cc)
  returned p x _ (grant _ _ _) e d = never (cc)
  returned p _ _ (return {p = q} {o = o} f _) e d = let s : q ≡ p = cc in (o, rw (← s) (kept.full o q f))
  returned p _ _ (more _) e d = never (cc)
  returned p _ _ (less _) e d = never (cc)
  returned p _ _ (last _ _) e d = never (cc)

  put_last : (p : ℕ) (x : Request) (r : Outcome) → Called M n m.heap x r → x ≡ on to_put p → r.answer ≡ counted 0 → FilePage M at p 1
  put_last p x _ refuse e d = never (cc)
  put_last p x _ (grant _ _ _) e d = never (cc)
  put_last p _ _ (return _ _) e d = never (cc)
  put_last p _ _ (more _) e d = never (cc)
  put_last p _ _ (less {i = i} _) e d = let z : suc i ≡ 0 = cc in absurd (omega arith)
  put_last p _ _ (last {p = q} f _) e d = let s : q ≡ p = cc in rw (← s) f

  -- an ordinary block or a slab page was granted as no file page
  one-file : (p : ℕ) → T (M p) → (k : Kind) → (at p).kind ≡ k → As m.log p k → granted_as m.log p ≡ file 1
      → puts m.log p ≡ gets m.log p → FilePage M at p 1
  one-file p t free e x g b = absurd x
  one-file p t used e x g b = never (cc)
  one-file p t (slab i) e x g b = never (cc)
  one-file p t (file i) e x g b = let s : i ≡ 1 = omega (arith, x.1) in file-page kept.sound.core.tiled t (rw s at e)

  kept-returns : Returns M m
  kept-returns = record {
    frees = λ p. (
      returned p (on to_free p) _ (called bound m.heap kept.sound (on to_free p)) refl,
      λ x. rw (give-out m.heap (kept.real x.0 p x.1)),
    );
    last = λ p. (
      λ d. let f = put_last p (on to_put p) _ (called bound m.heap kept.sound (on to_put p)) refl d in
          let x = rw f.is at (kept.kinds 0 p (file-out f)) in
          (kept.full 0 p (file-out f), x.0, omega (arith, x.1)),
      λ x. let f = kept.real 0 p x.0 in
          rw (put-file m.heap (one-file p f.managed (at p).kind refl (kept.kinds 0 p f) x.1 x.2)),
    );
  }

  kept-clear : (x : Request) (p : ℕ) → (call M m.heap x).answer ≡ page p → Head (order_of x) p × Clear M m (order_of x) (cell (order_of x) p)
  kept-clear x p e = let r = paged bound m.heap kept.sound x p e in rw (asks-order r.asks) (r.head, free-clear _ _ r.granted.was)

  kept-all-back : ((o : ℕ) → still_out m.log o ≡ []) → (p : ℕ) → T (M p) → (at p).kind ≡ free
  kept-all-back none p t = by_cases (free? (at p).kind) (λ e. e) (λ e. absurd (mem-not_nil (rw (none (at p).order) at (busy-out p t e))))

-- From here on: every history from a set-up on, the pages from a up to e being managed.
pub bound : (a e p : ℕ) → T (span a e p) → p < e
bound a e p t = (T-span a e p t).1

pub kept : (a e : ℕ) (cs : List Request) → Kept (span a e) e (after (span a e) (set_up a e).heap cs)
kept a e cs = after_kept (bound a e) (set_up a e).heap (set-up a e).sound (set-up a e).all-free cs

pub demand3 : (a e : ℕ) (cs : List Request) → Demand3 (span a e) (after (span a e) (set_up a e).heap cs) e
demand3 a e cs = kept-demand3 (bound a e) (kept a e cs)

pub returns : (a e : ℕ) (cs : List Request) → Returns (span a e) (after (span a e) (set_up a e).heap cs)
returns a e cs = kept-returns (bound a e) (kept a e cs)

pub sound-always : (a e : ℕ) (cs : List Request) → SoundHeap (span a e) e (after (span a e) (set_up a e).heap cs).heap
sound-always a e cs = (kept a e cs).sound

pub clean-always : (a e : ℕ) (cs : List Request) → Clean (span a e) (after (span a e) (set_up a e).heap cs).heap
unfolding after next
clean-always a e [] = (set-up a e).clean
clean-always a e (x ∷ cs) = call-clean (bound a e) _ (sound-always a e cs) (clean-always a e cs) x

-- no page is granted that is still out
pub grant-clear : (a e : ℕ) (cs : List Request) → let m = after (span a e) (set_up a e).heap cs in
    (x : Request) (p : ℕ) → (call (span a e) m.heap x).answer ≡ page p → Head (order_of x) p × Clear (span a e) m (order_of x) (cell (order_of x) p)
grant-clear a e cs = kept-clear (bound a e) (kept a e cs)

-- when all is back, all is free
pub all_back : (a e : ℕ) (cs : List Request) → let m = after (span a e) (set_up a e).heap cs in
    ((o : ℕ) → still_out m.log o ≡ []) → (p : ℕ) → T (span a e p) → (m.heap.at p).kind ≡ free
all_back a e cs = kept-all-back (bound a e) (kept a e cs)
