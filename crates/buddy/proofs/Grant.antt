-- Rule 4 keeps soundness, grants a run that was free all over and leaves every other block out as it was; it refuses exactly when there is no
-- such run.
use Rattle.common.specs.Kit.{ℕ, zero, suc, ◌+◌, ◌*◌, ◌≤◌, ◌<◌, ◌≡◌, refl, sym, ap, ◌∙◌, ◌≢◌, ◌↔◌, by_cases, Bool, List, ◌∷◌, mem-head, T, suc-add, ℕ_discrete, arith}
use Rattle.buddy.specs.Runs.{cell, first, buddy}
use Rattle.buddy.specs.Heap.{Kind, free, used, Tag, tag, FreeHead, Heap, SoundHeap}
use Rattle.buddy.specs.Steps.{take, halve}
use Rattle.buddy.specs.Rules.{Grant, refused, granted, allocate}
use Rattle.buddy.proofs.RunLaws.{cell-suc, cell-coarse, cell-low, cell-high, buddy-is, buddy-odd}
use Rattle.buddy.proofs.Tags.{kind-of, order-of, used≢free}
use Rattle.buddy.proofs.Paint.{paint-in, BlockOut, FreeBlock, free-block, part_out}
use Rattle.buddy.proofs.Steps.{halve-out}
use Rattle.buddy.proofs.Apart.{push-sound, take-sound, halve-sound}
use Rattle.buddy.proofs.Clear.{AllFree, none_free}
use Rattle.buddy.proofs.Refill.{never, lower, lower-on, down, Allocated, none, some, allocated}
use Rattle.buddy.proofs.GrantLists.{Parted, down-cell, down-head, down-parted}

-- the block c of order o is out as an ordinary one
pub record InHand (M : ℕ → Bool) (at : ℕ → Tag) (o c : ℕ) : Type 0 where
  pub managed : (q : ℕ) → cell o q ≡ c → T (M q)
  pub is : (q : ℕ) → cell o q ≡ c → at q ≡ tag o used

pub hand-out : {M : ℕ → Bool} {at : ℕ → Tag} {o c : ℕ} → InHand M at o c → BlockOut M at o c
hand-out f = record {
  cut = record { managed = f.managed; order = λ q e. order-of (f.is q e) };
  busy = λ q e x. used≢free (sym (kind-of (f.is q e)) ∙ x);
}

-- one split
module _ {M : ℕ → Bool} {n : ℕ} (bound : (p : ℕ) → T (M p) → p < n) (h : Heap) (j c : ℕ) (valid : j < 5) (f : InHand M h.at (suc j) c) where
  pub lower-sound : SoundHeap M n h → SoundHeap M n (lower h j c)
  unfolding halve
  lower-sound s = push-sound (halve-sound bound s valid (hand-out f)) (omega arith)
      (part_out (c * 2 + 1) (cell-high j c) (halve-out h (hand-out f)))
      (λ _ q _ e x. used≢free (kind-of (sym (paint-in h.at (suc j) c (tag j used) q (cell-low j c q (e ∙ buddy-odd c))) ∙ x)))

  pub lower-hand : InHand M (lower h j c).at j (c * 2)
  lower-hand = record { managed = λ q e. f.managed q (cell-low j c q e); is = lower-on h j c }

down-sound : {M : ℕ → Bool} {n : ℕ} → ((p : ℕ) → T (M p) → p < n) → (o k : ℕ) (h : Heap) (c : ℕ) → k + o ≤ 5 → SoundHeap M n h
    → InHand M h.at (k + o) c → SoundHeap M n (down o k h c).0
unfolding down
down-sound bound o zero h c valid s f = s
down-sound {M} bound o (suc k) h c valid s f =
    let l : k + o < 5 = omega arith in
    let hand : InHand M h.at (suc (k + o)) c = rw (suc-add k o) at f in
    down-sound bound o k _ (c * 2) (omega arith) (lower-sound bound h (k + o) c l hand s) (lower-hand bound h (k + o) c l hand)

-- two pages of one run of order j that are not in one of order o: at some order between, their runs are buddies
parting : (o j p q : ℕ) → o ≤ j → cell j q ≡ cell j p → cell o q ≢ cell o p → (i : ℕ) × (o ≤ i) × (i < j) × (cell i q ≡ buddy (cell i p))
parting o zero p q l e ne = let x : o ≡ 0 = omega arith in absurd (ne (rw x e))
parting o (suc j) p q l e ne =
    let low : o ≢ suc j = λ x. ne (rw x e) in
    by_cases (ℕ_discrete (cell j q) (cell j p))
    (λ x. let r = parting o j p q (omega arith) x ne in (r.0, r.1, omega (arith, r.2), r.3))
    (λ x. (j, omega arith, omega arith, buddy-is j (cell j p) q (e ∙ cell-suc j p) x))

-- from h to g the run c of order o, which was free all over, was granted as a block of kind k
pub record Granted (M : ℕ → Bool) (n : ℕ) (h g : Heap) (o c : ℕ) (k : Kind) : Type 0 where
  pub sound : SoundHeap M n g
  pub was : AllFree M h.at o c
  pub on : (q : ℕ) → cell o q ≡ c → g.at q ≡ tag o k
  pub stays : (q : ℕ) → (h.at q).kind ≡ free → cell o q ≢ c → (g.at q).kind ≡ free
  pub others : (q : ℕ) → (h.at q).kind ≢ free → g.at q ≡ h.at q

-- what an answer to a request says
abbrev pub Answers : (ℕ → Bool) → ℕ → Heap → ℕ → Kind → Grant → Type 0
Answers M n h o k refused = (c : ℕ) → AllFree M h.at o c → ⊥
Answers M n h o k (granted g c) = Granted M n h g o c k

module _ {M : ℕ → Bool} {n : ℕ} {h : Heap} (s : SoundHeap M n h) where
  -- the head of list j is taken
  module _ (j p : ℕ) (ps : List ℕ) (valid : j ≤ 5) (e : h.list j ≡ p ∷ ps) where
    pub head-free : FreeHead M h.at j p
    head-free = (s.core.listed j valid).sound p (rw e (mem-head refl))

    pub head-block : FreeBlock M h.at j (cell j p)
    head-block = free-block j (cell j p) s.core.tiled (rw head-free.head head-free)

    pub taken-hand : InHand M (take h j (cell j p)).at j (cell j p)
    unfolding take
    taken-hand = record { managed = head-block.managed; is = paint-in h.at j (cell j p) (tag j used) }

  -- what the exact effect says of the pages
  parted-granted : {g : Heap} {o j p : ℕ} → SoundHeap M n g → Parted h g o j p → Granted M n h g o (cell o p) used
  parted-granted {g} {o} {j} {p} sound r = record {
    sound = sound;
    was = λ q e. let x = cell-coarse o j q p r.valid.0 e in (block.managed q x, kind-of (block.is q x));
    on = r.on;
    stays = λ q f e. by_cases (ℕ_discrete (cell j q) (cell j p))
        (λ x. let i = parting o j p q r.valid.0 x e in kind-of (r.upper i.0 q i.1 i.2 i.3))
        (λ x. kind-of (r.off q x) ∙ f);
    others = λ q b. by_cases (ℕ_discrete (cell j q) (cell j p)) (λ x. absurd (b (kind-of (block.is q x)))) (r.off q);
  }
    where
      block : FreeBlock M h.at j (cell j p)
      block = head-block j p (g.list j) r.valid.1 r.taken

  module _ (bound : (p : ℕ) → T (M p) → p < n) (o : ℕ) where
    pub allocate-answers : o ≤ 5 → Answers M n h o used (allocate h o)
    allocate-answers valid = go (allocate h o) (allocated h o)
      where
        go : (a : Grant) → Allocated h o a → Answers M n h o used a
        go _ (none f) = none_free M n h s o valid f
        go _ (some k p ps l e f) =
            let head = (head-free (k + o) p ps l e).head in
            rw (down-cell h o k p ps l head e f) (parted-granted
            (down-sound bound o k _ (cell (k + o) p) l (take-sound s l (head-block (k + o) p ps l e)) (taken-hand (k + o) p ps l e))
            (down-parted h o k p ps l head e f))

    -- want of memory, by the tags
    pub refused-iff : o ≤ 5 → (allocate h o ≡ refused) ↔ ((c : ℕ) → AllFree M h.at o c → ⊥)
    refused-iff valid = (λ e. rw e at (allocate-answers valid), λ f. go f (allocate h o) (allocate-answers valid))
      where
        go : ((c : ℕ) → AllFree M h.at o c → ⊥) → (a : Grant) → Answers M n h o used a → a ≡ refused
        go f refused _ = refl
        go f (granted g c) r = absurd (f c r.was)

  pub grant-lists : (o : ℕ) (g : Heap) (c : ℕ) → allocate h o ≡ granted g c → (j : ℕ) × Parted h g o j (first o c)
  grant-lists o g c e = go (allocate h o) (allocated h o) e
    where
      go : (a : Grant) → Allocated h o a → a ≡ granted g c → (j : ℕ) × Parted h g o j (first o c)
      go _ (none _) x = never (cc)
      go _ (some k p ps l is f) x =
          let d = down o k (take h (k + o) (cell (k + o) p)) (cell (k + o) p) in
          let head = (head-free (k + o) p ps l is).head in
          let eh : d.0 ≡ g = cc in
          let ec : d.1 ≡ c = cc in
          let page : first o c ≡ p = ap (first o) (sym ec ∙ down-cell h o k p ps l head is f) ∙ down-head h o k p ps l head is f in
          (k + o, rw page (rw eh at (down-parted h o k p ps l head is f)))
