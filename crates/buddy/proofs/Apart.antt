-- The rule on buddies under the single steps: a step that frees nothing keeps it, and so does the push of a run whose buddy is not free.
-- With the cores of `Steps` that makes the steps keep soundness.
use Rattle.common.specs.Kit.{ℕ, suc, ◌≤◌, ◌<◌, ◌≡◌, refl, sym, ◌∙◌, ◌≢◌, by_cases, Bool, true, false, ◌&&◌, false≢true, T, eqb, eqb→eq, ℕ_discrete, arith, eq-eqb}
use Rattle.common.proofs.Tests.{T_true, T_and}
use Rattle.buddy.specs.Runs.{cell, first, buddy}
use Rattle.buddy.specs.Heap.{free, used, Tag, tag, NoBuddies, Heap, Core, SoundHeap, is_free}
use Rattle.buddy.specs.Steps.{paint, push, take, halve, merge}
use Rattle.buddy.specs.Rules.{free_at}
use Rattle.buddy.proofs.RunLaws.{cell-suc, cell-first, head_first, buddy-is}
use Rattle.buddy.proofs.Tags.{order-of, kind-of, tag-path, used≢free, is_free_lem}
use Rattle.buddy.proofs.Paint.{paint-in, paint-out, BlocksOut, BlockOut, FreeBlock, free-block}
use Rattle.buddy.proofs.Steps.{push-core, take-core, halve-core, merge-core}

-- a run is painted with a tag that is not free; M', managed from then on, is M off the run
pub quiet-apart : (M M' : ℕ → Bool) {at : ℕ → Tag} (o c : ℕ) (v : Tag) → ((q : ℕ) → cell o q ≢ c → M' q ≡ M q) → v.kind ≢ free
    → NoBuddies M at → NoBuddies M' (paint at o c v)
quiet-apart M M' {at} o c v same busy apart j p q l mp mq ep eq e =
    apart j p q l (rw (same p (off p ep)) at mp) (rw (same q (off q eq)) at mq) (old p ep) (old q eq) e
  where
    off : (p : ℕ) → paint at o c v p ≡ tag j free → cell o p ≢ c
    off p x e = busy (kind-of (sym (paint-in at o c v p e) ∙ x))

    old : (p : ℕ) → paint at o c v p ≡ tag j free → at p ≡ tag j free
    old p x = sym (paint-out at o c v p (off p x)) ∙ x

module _ (M : ℕ → Bool) (at : ℕ → Tag) (o c : ℕ) where
  -- below order 5 the buddy of run c is no free block of its order
  abbrev pub Lone : Type 0
  Lone = o < 5 → (q : ℕ) → T (M q) → cell o q ≡ buddy c → at q ≢ tag o free

  -- such a run becomes free
  push-apart : Lone → NoBuddies M at → NoBuddies M (paint at o c (tag o free))
  push-apart lone apart j p q l mp mq ep eq e = by_cases (ℕ_discrete (cell o p) c)
      (λ a. by_cases (ℕ_discrete (cell o q) c) (λ b. rw (← on p ep a) (a ∙ sym b)) (λ b. absurd (mixed p q mq ep eq e a b)))
      (λ a. by_cases (ℕ_discrete (cell o q) c) (λ b. absurd (mixed q p mp eq ep (sym e) b a)) (λ b. apart j p q l mp mq (off p ep a) (off q eq b) e))
    where
      at' : ℕ → Tag
      at' = paint at o c (tag o free)

      off : (p : ℕ) → at' p ≡ tag j free → cell o p ≢ c → at p ≡ tag j free
      off p x k = sym (paint-out at o c (tag o free) p k) ∙ x

      on : (p : ℕ) → at' p ≡ tag j free → cell o p ≡ c → o ≡ j
      on p x k = order-of (sym (paint-in at o c (tag o free) p k) ∙ x)

      -- one page in the run, the other in its buddy
      mixed : (p q : ℕ) → T (M q) → at' p ≡ tag j free → at' q ≡ tag j free → cell (suc j) p ≡ cell (suc j) q → cell o p ≡ c → cell o q ≢ c → ⊥
      mixed p q mq ep eq e a b =
          let s : o ≡ j = on p ep a in
          let up : cell (suc o) p ≡ cell (suc o) q = rw s e in
          lone (rw s l) q mq (buddy-is o c q (omega (arith, cell-suc o p)) b) (rw s (off q eq b))

module _ {M : ℕ → Bool} {n : ℕ} {h : Heap} {o c : ℕ} (s : SoundHeap M n h) where
  pub push-sound : o ≤ 5 → BlockOut M h.at o c → Lone M h.at o c → SoundHeap M n (push h o c)
  unfolding push
  push-sound l out lone = record { core = push-core s.core l out; apart = push-apart M h.at o c lone s.apart }

  pub take-sound : o ≤ 5 → FreeBlock M h.at o c → SoundHeap M n (take h o c)
  unfolding take
  take-sound l f = record { core = take-core s.core l f; apart = quiet-apart M M o c (tag o used) (λ _ _. refl) used≢free s.apart }

module _ {M : ℕ → Bool} {n : ℕ} {h : Heap} {o c : ℕ} (bound : (p : ℕ) → T (M p) → p < n) (s : SoundHeap M n h) (valid : o < 5) where
  pub halve-sound : BlockOut M h.at (suc o) c → SoundHeap M n (halve h o c)
  unfolding halve
  halve-sound out = record {
    core = halve-core bound s.core valid out;
    apart = quiet-apart M M (suc o) c (tag o used) (λ _ _. refl) used≢free s.apart;
  }

  pub merge-sound : BlocksOut M h.at o (suc o) c → SoundHeap M n (merge h o c)
  unfolding merge
  merge-sound out = record {
    core = merge-core bound s.core valid out;
    apart = quiet-apart M M (suc o) c (tag (suc o) used) (λ _ _. refl) used≢free s.apart;
  }

-- the test of rule 5
module _ (M : ℕ → Bool) (h : Heap) (o p : ℕ) where
  pub free_at-true : free_at M h o p ≡ true → T (M p) × (h.at p ≡ tag o free)
  unfolding free_at
  free_at-true e =
      let a = T_and (M p) (eqb (h.at p).order o && is_free (h.at p).kind) (rw e tt) in
      let b = T_and (eqb (h.at p).order o) _ a.1 in
      (a.0, tag-path (h.at p) (eqb→eq _ _ b.0) (is_free_lem _ b.1))

  pub free_at-false : free_at M h o p ≡ false → T (M p) → h.at p ≢ tag o free
  unfolding free_at
  free_at-false e m f = false≢true (sym e ∙ rw (T_true (M p) m, f, eq-eqb o o refl))

-- the test at a run's first page tells of the whole run
module _ {M : ℕ → Bool} {n : ℕ} {h : Heap} (k : Core M n h) (o c : ℕ) where
  pub free_at-block : free_at M h o (first o c) ≡ true → FreeBlock M h.at o c
  free_at-block e =
      let f = free_at-true M h o (first o c) e in
      free-block o c k.tiled (record { managed = f.0; is = f.1; head = head_first o c })

  pub free_at-lone : free_at M h o (first o (buddy c)) ≡ false → Lone M h.at o c
  free_at-lone is _ q m e f =
      let near : cell (h.at q).order (first o (buddy c)) ≡ cell (h.at q).order q = rw f (cell-first o (buddy c) ∙ sym e) in
      free_at-false M h o (first o (buddy c)) is ((k.tiled q m).inside _ near) ((k.tiled q m).same _ near ∙ f)
