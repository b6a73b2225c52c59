-- How many blocks and pages are free, and how many are out: a free block stands on its list once, and a block out in the log once.
use Rattle.common.specs.Kit.{ℕ, zero, suc, ◌+◌, ◌≤◌, ◌<◌, ◌≡◌, refl, sym, ◌∙◌, ◌≢◌, ◌↔◌, Bool, true, false, not, ◌&&◌, List, [], ◌∷◌, Memᴰ, mem-head, T, eqb, eqb→eq, length, arith}
use Rattle.common.specs.Numbers.{remove, Once, one, count}
use Rattle.common.proofs.Tests.{by-test, T_and, and_T}
use Rattle.common.proofs.Lists.{mem-of-remove, not-removed, mem-remove, once-remove}
use Rattle.common.proofs.Counts.{count-parts}
use Rattle.common.proofs.Bounds.{length-remove}
use Rattle.buddy.specs.Runs.{Head}
use Rattle.buddy.specs.Heap.{Kind, free, Tag, Listed, heads, is_free}
use Rattle.buddy.specs.History.{Moment, still_out}
use Rattle.buddy.specs.Demand.{pages_in, Clear}
use Rattle.buddy.proofs.RunLaws.{cell-zero}
use Rattle.buddy.proofs.Tags.{order-of, tag-path, is_free_lem}
use Rattle.buddy.proofs.Blocks.{heads-yes}
use Rattle.buddy.proofs.Totals.{totals}
use Rattle.buddy.proofs.Kept.{Kept}
use Rattle.buddy.proofs.Demand3.{clear-free, free-clear}

-- a list that holds once each number below n that passes a test
once-count : (f : ℕ → Bool) (n : ℕ) (l : List ℕ) → Once l → ((p : ℕ) → Memᴰ p l → T (f p) × (p < n))
    → ((p : ℕ) → p < n → T (f p) → Memᴰ p l) → length l ≡ count f n
unfolding count
once-count f zero [] u is full = refl
once-count f zero (x ∷ l) u is full = absurd (omega (arith, (is x (mem-head refl)).1))
once-count f (suc n) l u is full = by-test (f n)
    (λ e. rw e (omega (
      arith,
      length-remove n l (full n (omega arith) (rw e tt)),
      once-count f n (remove n l) (once-remove n l u)
          (λ p m.
          let ne : p ≢ n = λ x. not-removed n l u (rw x at m) in
          let b = is p (mem-of-remove n p l m) in
          (b.0, omega arith))
          (λ p k t. mem-remove n p l (omega arith) (full p (omega arith) t)),
    )))
    (λ e. rw e (omega (
      arith,
      once-count f n l u
          (λ p m.
          let b = is p m in
          let ne : p ≢ n = λ x. rw (x, e) at b.0 in
          (b.0, omega arith))
          (λ p k t. full p (omega arith) t),
    )))

two-parts : (a b c : Bool) → one (a && c) ≡ one ((a && b) && c) + one ((a && not b) && c)
two-parts true true c = omega arith
two-parts true false c = omega arith
two-parts false b c = refl

heads-at : (M : ℕ → Bool) (at : ℕ → Tag) (o p : ℕ) → T (heads M at o p) → T (M p) × ((at p).order ≡ o) × Head o p
heads-at M at o p t =
    let a = T_and (M p) _ t in
    let b = T_and (eqb (at p).order o) _ a.1 in
    (a.0, eqb→eq _ _ b.0, eqb→eq _ _ b.1)

module _ {M : ℕ → Bool} {n : ℕ} {m : Moment} (bound : (p : ℕ) → T (M p) → p < n) (kept : Kept M n m) where
  abbrev at : ℕ → Tag
  at = m.heap.at

  -- the managed pages that are free, and those that are out
  abbrev pub frees : ℕ → Bool
  frees p = M p && is_free (at p).kind

  abbrev outs : ℕ → Bool
  outs p = M p && not (is_free (at p).kind)

  list-long : (o : ℕ) → o ≤ 5 → length (m.heap.list o) ≡ count (heads frees at o) n
  list-long o l = once-count _ n (m.heap.list o) k.once
      (λ p x.
      let f = k.sound p x in
      let a : T (frees p) = and_T (M p) _ f.managed (rw f.is tt) in
      (rw (heads-yes frees at o p a (order-of f.is) f.head) tt, bound p f.managed))
      (λ p _ x.
      let f = heads-at frees at o p x in
      let a = T_and (M p) _ f.0 in
      k.full p (record { managed = a.0; is = tag-path (at p) f.1 (is_free_lem _ a.1); head = f.2 }))
    where
      k : Listed M at o (m.heap.list o)
      k = kept.sound.core.listed o l

  out-long : (o : ℕ) → length (still_out m.log o) ≡ count (heads outs at o) n
  out-long o = once-count _ n (still_out m.log o) (kept.once o)
      (λ p x.
      let f = kept.real o p x in
      let a : T (outs p) = and_T (M p) _ f.managed (busy-T (at p).kind f.busy) in
      (rw (heads-yes outs at o p a f.order f.head) tt, bound p f.managed))
      (λ p _ x.
      let f = heads-at outs at o p x in
      let a = T_and (M p) _ f.0 in
      kept.full o p (record { managed = a.0; order = f.1; busy = λ e. rw e at a.1; head = f.2 }))
    where
      busy-T : (k : Kind) → k ≢ free → T (not (is_free k))
      busy-T k b = by-test (is_free k) (λ e. absurd (b (is_free_lem k (rw e tt)))) (λ e. rw e tt)

  -- every block is free or out
  pub blocks-are : (o : ℕ) → o ≤ 5 → m.heap.blocks o ≡ length (m.heap.list o) + length (still_out m.log o)
  blocks-are o l = rw (list-long o l, out-long o)
      (kept.sound.core.counted o l ∙ count-parts _ _ _ n (λ p. two-parts (M p) (is_free (at p).kind) _))

  -- the free blocks tile the free pages
  pub frees-are : pages_in (λ o. length (m.heap.list o)) 6 ≡ count frees n
  frees-are = totals frees n (λ p t. bound p (T_and (M p) _ t).0)
      (record { at = at; list = m.heap.list; blocks = λ o. length (m.heap.list o) })
      (record {
        tiled = λ p t.
            let a = T_and (M p) _ t in
            let b = kept.sound.core.tiled p a.0 in
            record { fits = b.fits; inside = λ q e. and_T (M q) _ (b.inside q e) (rw (b.same q e) a.1); same = b.same };
        listed = λ o l.
            let k = kept.sound.core.listed o l in
            record {
              sound = λ p x. let f = k.sound p x in record { managed = and_T (M p) _ f.managed (rw f.is tt); is = f.is; head = f.head };
              full = λ p f. k.full p (record { managed = (T_and (M p) _ f.managed).0; is = f.is; head = f.head });
              once = k.once;
            };
        counted = list-long;
      })

  -- a page is free exactly when it is clear of blocks still out
  pub page-clear : (p : ℕ) → T (frees p) ↔ Clear M m 0 p
  page-clear p = (
    λ t. let a = T_and (M p) _ t in
        free-clear bound kept 0 p (λ q e. let same : q ≡ p = sym (cell-zero q) ∙ e in rw same (a.0, is_free_lem _ a.1)),
    λ c. let a = clear-free bound kept 0 p c p (cell-zero p) in and_T (M p) _ a.0 (rw a.1 tt),
  )
