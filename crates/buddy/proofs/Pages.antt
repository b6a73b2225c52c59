-- The rules at single pages, on a sound heap: what may be freed and what its free does (rule 5), file pages and slab pages (rule 6).
use Rattle.common.specs.Kit.{ℕ, ◌-◌, ◌≤◌, ◌<◌, ◌≡◌, refl, sym, ◌∙◌, ◌≢◌, ◌↔◌, by_cases, Bool, true, false, cond, ◌&&◌, T, eqb, eqb→eq, ℕ_discrete, arith, eq-eqb}
use Rattle.common.proofs.Tests.{by-test, T_true, T_and}
use Rattle.buddy.specs.Runs.{cell, start, Head}
use Rattle.buddy.specs.Heap.{Kind, free, used, slab, file, Tag, tag, Fits, Block, Tiled, Heap, SoundHeap, is_free}
use Rattle.buddy.specs.Steps.{label}
use Rattle.buddy.specs.Rules.{Grant, refused, granted, allocate, free_block, out_at, free_page, grant_as, recount}
use Rattle.buddy.proofs.RunLaws.{cell-zero, start-le, lt-end}
use Rattle.buddy.proofs.Tags.{order-of, kind-of, tag-path, used≢free, is_free_lem}
use Rattle.buddy.proofs.Paint.{BlockOut}
use Rattle.buddy.proofs.Free.{Freed, free-result}
use Rattle.buddy.proofs.Label.{label-on, label-off, label-sound, label-order, label-busy}
use Rattle.buddy.proofs.Clear.{order_small}
use Rattle.buddy.proofs.Refill.{never}
use Rattle.buddy.proofs.Grant.{Answers, allocate-answers}
use Rattle.buddy.proofs.Undo.{grant-freed, free-label}

pub slab≢free : (i : ℕ) → slab i ≢ free
slab≢free i e = never (cc)

pub file≢free : (n : ℕ) → file n ≢ free
file≢free n e = never (cc)

pub free? : (k : Kind) → Dec (k ≡ free)
free? free = yes refl
free? used = no used≢free
free? (slab i) = no (slab≢free i)
free? (file n) = no (file≢free n)

-- page p heads a block of order o that is out
pub record OutHead (M : ℕ → Bool) (at : ℕ → Tag) (o p : ℕ) : Type 0 where
  pub managed : T (M p)
  pub order : (at p).order ≡ o
  pub busy : (at p).kind ≢ free
  pub head : Head o p

pub out-block : {M : ℕ → Bool} {at : ℕ → Tag} {o p : ℕ} → Tiled M at → OutHead M at o p → BlockOut M at o (cell o p)
out-block {M} {at} {o} {p} tiled f = record {
  cut = record { managed = λ q e. b.inside q (near q e); order = λ q e. order-of (b.same q (near q e)) ∙ f.order };
  busy = λ q e. rw (b.same q (near q e)) f.busy;
}
  where
    b : Block M at p
    b = tiled p f.managed

    near : (q : ℕ) → cell o q ≡ cell o p → cell (at p).order q ≡ cell (at p).order p
    near q e = rw f.order e

pub out-valid : {M : ℕ → Bool} {at : ℕ → Tag} {o p : ℕ} → Tiled M at → OutHead M at o p → o ≤ 5
out-valid {M} {at} {o} {p} tiled f = rw f.order at (order_small M at tiled p f.managed)

-- the test of a free
module _ (M : ℕ → Bool) (h : Heap) (p : ℕ) where
  pub out_at-head : out_at M h p ≡ true → OutHead M h.at (h.at p).order p
  unfolding out_at
  out_at-head e =
      let a = T_and (M p) (eqb (start (h.at p).order p) p && cond (is_free (h.at p).kind) false true) (rw e tt) in
      let b = T_and (eqb (start (h.at p).order p) p) _ a.1 in
      record { managed = a.0; order = refl; busy = λ f. rw f at b.1; head = eqb→eq _ _ b.0 }

  pub head-out_at : {o : ℕ} → OutHead M h.at o p → out_at M h p ≡ true
  unfolding out_at
  head-out_at f = rw (T_true (M p) f.managed, f.order, eq-eqb _ p f.head)
      (by-test (is_free (h.at p).kind) (λ e. absurd (f.busy (is_free_lem _ (rw e tt)))) (λ e. rw e))

-- rule 5 at a page that heads a block out
pub free-page : {M : ℕ → Bool} {n : ℕ} {h : Heap} {o p : ℕ} → ((q : ℕ) → T (M q) → q < n) → SoundHeap M n h → OutHead M h.at o p
    → Freed M n h (free_page M h p) o (cell o p)
unfolding free_page
free-page {M} {n} {h} {o} {p} bound s f =
    let t = s.core.tiled in
    rw f.order (free-result bound (5 - o) h o (cell o p) (omega (arith, out-valid t f)) s (out-block t f))

-- page p is a file page with the count n
pub record FilePage (M : ℕ → Bool) (at : ℕ → Tag) (p n : ℕ) : Type 0 where
  pub managed : T (M p)
  pub is : at p ≡ tag 0 (file n)
  pub positive : 1 ≤ n

head-zero : (p : ℕ) → Head 0 p
head-zero p = omega (arith, start-le 0 p, lt-end 0 p)

pub file-page : {M : ℕ → Bool} {at : ℕ → Tag} {p n : ℕ} → Tiled M at → T (M p) → (at p).kind ≡ file n → FilePage M at p n
file-page {M} {at} {p} tiled m e = let f = rw e at (tiled p m).fits in record { managed = m; is = tag-path (at p) f.0 e; positive = f.1 }

pub file-out : {M : ℕ → Bool} {at : ℕ → Tag} {p n : ℕ} → FilePage M at p n → OutHead M at 0 p
file-out {n = n} f = record {
  managed = f.managed;
  order = order-of f.is;
  busy = λ e. file≢free n (sym (kind-of f.is) ∙ e);
  head = head-zero _;
}

-- rule 6: the count changes, and nothing else
module _ {M : ℕ → Bool} {n : ℕ} {h : Heap} {p i : ℕ} (s : SoundHeap M n h) (f : FilePage M h.at p i) (m : ℕ) where
  pub recount-sound : 1 ≤ m → SoundHeap M n (recount h p m)
  unfolding recount
  recount-sound l = label-sound s (refl, l) (file≢free m) (out-block s.core.tiled (file-out f))

  pub recount-on : (recount h p m).at p ≡ tag 0 (file m)
  unfolding recount
  recount-on = label-on h 0 (cell 0 p) (file m) p refl

  pub recount-off : (q : ℕ) → q ≢ p → (recount h p m).at q ≡ h.at q
  unfolding recount
  recount-off q e = label-off h 0 (cell 0 p) (file m) q (λ x. e (omega (arith, cell-zero p, cell-zero q)))

  -- the same blocks are out
  pub recount-heads : 1 ≤ m → (o q : ℕ) → OutHead M h.at o q ↔ OutHead M (recount h p m).at o q
  unfolding recount
  recount-heads l o q = (
    λ a. record { managed = a.managed; order = sym (order q) ∙ a.order; busy = (busy q).0 a.busy; head = a.head },
    λ a. record { managed = a.managed; order = order q ∙ a.order; busy = (busy q).1 a.busy; head = a.head },
  )
    where
      out : BlockOut M h.at 0 (cell 0 p)
      out = out-block s.core.tiled (file-out f)

      order : (q : ℕ) → (h.at q).order ≡ ((label h 0 (cell 0 p) (file m)).at q).order
      order = label-order s (refl, l) (file≢free m) out

      busy : (q : ℕ) → ((h.at q).kind ≢ free) ↔ (((label h 0 (cell 0 p) (file m)).at q).kind ≢ free)
      busy = label-busy s (refl, l) (file≢free m) out

-- file and slab pages: a block of order 0 just granted takes its kind, and its free undoes that too
module _ {M : ℕ → Bool} {n : ℕ} (bound : (p : ℕ) → T (M p) → p < n) (h : Heap) (s : SoundHeap M n h) (k : Kind) where
  pub page-answers : Fits k 0 → k ≢ free → Answers M n h 0 k (grant_as k (allocate h 0))
  unfolding grant_as
  page-answers fits busy = go (allocate h 0) (allocate-answers s bound 0 (omega arith))
    where
      go : (a : Grant) → Answers M n h 0 used a → Answers M n h 0 k (grant_as k a)
      go refused f = f
      go (granted g c) r = record {
        sound = label-sound r.sound fits busy (record {
          cut = record { managed = λ q e. (r.was q e).0; order = λ q e. order-of (r.on q e) };
          busy = λ q e x. used≢free (sym (kind-of (r.on q e)) ∙ x);
        });
        was = r.was;
        on = label-on g 0 c k;
        stays = λ q f e. rw (label-off g 0 c k q e) (r.stays q f e);
        others = λ q b. by_cases (ℕ_discrete (cell 0 q) c) (λ e. absurd (b (r.was q e).1)) (λ e. label-off g 0 c k q e ∙ r.others q b);
      }

  pub page-freed : (g : Heap) (c : ℕ) → grant_as k (allocate h 0) ≡ granted g c → free_block M 5 g 0 c ≡ h
  unfolding grant_as
  page-freed g c e = go (allocate h 0) (grant-freed bound h s 0) e
    where
      go : (a : Grant) → ((g : Heap) (c : ℕ) → a ≡ granted g c → free_block M 5 g 0 c ≡ h) → grant_as k a ≡ granted g c → free_block M 5 g 0 c ≡ h
      go refused _ x = never (cc)
      go (granted g' d) undo x =
          let eh : label g' 0 d k ≡ g = cc in
          let ec : d ≡ c = cc in
          rw (← eh, ← ec) (free-label M k 5 g' 0 d ∙ undo g' d refl)
