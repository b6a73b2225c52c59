-- A new run becomes a block out, and the managed pages grow by it: the step of set-up, and of any later hand-over. It keeps soundness.
use Rattle.common.specs.Kit.{ℕ, ◌+◌, ◌≤◌, ◌<◌, ◌≡◌, sym, ◌∙◌, ◌≢◌, by_cases, Bool, true, false, T, le_refl, ℕ_discrete, arith, eq-eqb, ne_eqb}
use Rattle.common.specs.Numbers.{count}
use Rattle.common.proofs.Lists.{update_same, update_other}
use Rattle.common.proofs.Counts.{count_same, count_at}
use Rattle.buddy.specs.Runs.{cell, first}
use Rattle.buddy.specs.Heap.{used, Tag, tag, heads, Heap, Core, SoundHeap}
use Rattle.buddy.specs.Steps.{paint, with_run, add}
use Rattle.buddy.proofs.RunLaws.{cell-first, head_first, head-is}
use Rattle.buddy.proofs.Tags.{order-of, kind-of, used≢free}
use Rattle.buddy.proofs.Paint.{paint-in, paint-out, BlockOut, painted-out, paint-tiled}
use Rattle.buddy.proofs.Blocks.{heads-yes, heads-no}
use Rattle.buddy.proofs.Steps.{keep-listed}
use Rattle.buddy.proofs.Apart.{quiet-apart}

module _ (M : ℕ → Bool) (o c p : ℕ) where
  pub with_run-in : cell o p ≡ c → with_run M o c p ≡ true
  unfolding with_run
  with_run-in e = rw (eq-eqb (cell o p) c e)

  pub with_run-out : cell o p ≢ c → with_run M o c p ≡ M p
  unfolding with_run
  with_run-out e = rw (ne_eqb (cell o p) c e)

-- no page of the run is managed yet, and all lie below n
pub record New (M : ℕ → Bool) (n o c : ℕ) : Type 0 where
  pub fresh : (q : ℕ) → cell o q ≡ c → T (M q) → ⊥
  pub room : (q : ℕ) → cell o q ≡ c → q < n

module _ {M : ℕ → Bool} {n o c : ℕ} (new : New M n o c) where
  abbrev M' : ℕ → Bool
  M' = with_run M o c

  pub add-bound : ((p : ℕ) → T (M p) → p < n) → (p : ℕ) → T (M' p) → p < n
  add-bound bound p t = by_cases (ℕ_discrete (cell o p) c) (new.room p) (λ e. bound p (rw (with_run-out M o c p e) at t))

  managed : (q : ℕ) → cell o q ≡ c → T (M' q)
  managed q e = rw (with_run-in M o c q e) tt

  pub add-out : (h : Heap) → BlockOut M' (add h o c).at o c
  unfolding add
  add-out h = painted-out h.at o o c used managed used≢free

  module _ {h : Heap} (s : SoundHeap M n h) where
    abbrev at' : ℕ → Tag
    at' = paint h.at o c (tag o used)

    -- block heads: on the run there was none, and off it they stay
    none_before : (j p : ℕ) → cell o p ≡ c → heads M h.at j p ≡ false
    none_before j p e = heads-no M h.at j p (λ m _ _. new.fresh p e m)

    same-off : (j p : ℕ) → cell o p ≢ c → heads M h.at j p ≡ heads M' at' j p
    same-off j p e = rw (with_run-out M o c p e, paint-out h.at o c (tag o used) p e)

    count-old : (j : ℕ) → j ≢ o → count (heads M h.at j) n ≡ count (heads M' at' j) n
    count-old j ne = count_same _ _ n (λ p _. by_cases (ℕ_discrete (cell o p) c)
        (λ e. none_before j p e ∙ sym (heads-no M' at' j p (λ _ x _. ne (sym x ∙ order-of (paint-in h.at o c (tag o used) p e)))))
        (same-off j p))

    -- there is one now, at the first page
    count-new : count (heads M' at' o) n ≡ count (heads M h.at o) n + 1
    count-new = omega (
      arith,
      rw (now, none_before o _ here) at
          (count_at (heads M h.at o) (heads M' at' o) (first o c) n (new.room _ here) same),
    )
      where
        here : cell o (first o c) ≡ c
        here = cell-first o c

        now : heads M' at' o (first o c) ≡ true
        now = heads-yes M' at' o _ (managed _ here) (order-of (paint-in h.at o c (tag o used) _ here)) (head_first o c)

        same : (p : ℕ) → p ≢ first o c → heads M h.at o p ≡ heads M' at' o p
        same p ne = by_cases (ℕ_discrete (cell o p) c)
            (λ e. none_before o p e ∙ sym (heads-no M' at' o p (λ _ _ x. ne (head-is o c p x e))))
            (same-off o p)

    add-core : o ≤ 5 → Core M' n (add h o c)
    unfolding add
    add-core valid = record {
      tiled = paint-tiled o o c used s.core.tiled valid (le_refl o) managed (with_run-out M o c)
          (λ p q m _ x e. new.fresh q e ((s.core.tiled p m).inside q x));
      listed = λ j l. keep-listed h.at o c (tag o used) (with_run-out M o c) j (h.list j)
          (λ q e f. new.fresh q e f.managed) (λ x. used≢free (kind-of x)) (s.core.listed j l);
      counted = λ j l. by_cases (ℕ_discrete j o)
          (λ e. rw update_same (rw e (omega (arith, s.core.counted o valid, count-new))))
          (λ e. rw update_other (s.core.counted j l ∙ count-old j e));
    }

    pub add-sound : o ≤ 5 → SoundHeap M' n (add h o c)
    unfolding add
    add-sound valid = record { core = add-core valid; apart = quiet-apart M M' o c (tag o used) (with_run-out M o c) used≢free s.apart }
