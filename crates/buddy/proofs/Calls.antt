-- The ways through the calls, on a sound heap: a call is refused and changes nothing, or it grants, frees or recounts.
use Rattle.common.specs.Kit.{ℕ, zero, suc, ◌+◌, ◌-◌, ◌≤◌, ◌<◌, ◌≡◌, refl, ◌≢◌, by_cases, Bool, true, T, dec_le, arith}
use Rattle.common.proofs.Tests.{by-test, T_true}
use Rattle.buddy.specs.Runs.{cell, first, Head}
use Rattle.buddy.specs.Heap.{Kind, free, used, slab, file, good_item, Fits, Heap, SoundHeap}
use Rattle.buddy.specs.Rules.{Grant, refused, granted, allocate, free_block, out_at, free_page, grant_as, file_page, slab_page, recount, put_to}
use Rattle.buddy.specs.Request.{Request, for_block, for_file, for_slab, on, to_free, to_get, to_put}
use Rattle.buddy.specs.History.{denied, done, page, counted, Outcome, outcome, grants, on_file, call}
use Rattle.buddy.proofs.RunLaws.{cell-first, head_first}
use Rattle.buddy.proofs.Tags.{order-of, used≢free}
use Rattle.buddy.proofs.Free.{Freed}
use Rattle.buddy.proofs.Refill.{never, Allocated, none, some, allocated}
use Rattle.buddy.proofs.Grant.{Granted, Answers, allocate-answers}
use Rattle.buddy.proofs.Undo.{grant-freed}
use Rattle.buddy.proofs.Pages.{slab≢free, file≢free, OutHead, out_at-head, head-out_at, free-page, FilePage, file-page, file-out, page-answers, page-freed}

-- the calls that return, where they succeed
module _ {M : ℕ → Bool} (h : Heap) {p : ℕ} where
  pub give-out : {o : ℕ} → OutHead M h.at o p → call M h (on to_free p) ≡ outcome (free_page M h p) done
  unfolding call
  give-out f = rw (head-out_at M h p f)

  pub put-file : {i : ℕ} → FilePage M h.at p i → call M h (on to_put p) ≡ outcome (put_to M h p (i - 1)) (counted (i - 1))
  unfolding call on_file
  put-file f = rw (T_true (M p) f.managed, f.is)

-- the requests: the order and the kind that a call asks for
pub data Asks : Request → ℕ → Kind → Type 0 where
  plain : {o : ℕ} → o ≤ 5 → Asks (for_block o) o used
  filed : Asks for_file 0 (file 1)
  slabbed : {i : ℕ} → good_item i ≡ true → Asks (for_slab i) 0 (slab i)

pub asks-valid : {x : Request} {o : ℕ} {k : Kind} → Asks x o k → o ≤ 5
asks-valid (plain l) = l
asks-valid filed = omega arith
asks-valid (slabbed _) = omega arith

pub asks-busy : {x : Request} {o : ℕ} {k : Kind} → Asks x o k → k ≢ free
asks-busy (plain _) = used≢free
asks-busy filed = file≢free 1
asks-busy (slabbed {i} _) = slab≢free i

pub granted-head : {M : ℕ → Bool} {n : ℕ} {h g : Heap} {x : Request} {o c : ℕ} {k : Kind} → Asks x o k → Granted M n h g o c k
    → OutHead M g.at o (first o c)
granted-head {o = o} {c} a r = record {
  managed = (r.was _ (cell-first o c)).0;
  order = order-of (r.on _ (cell-first o c));
  busy = rw (r.on _ (cell-first o c)) (asks-busy a);
  head = head_first o c;
}

-- the ways through: a grant can be undone, and a file page's count is never 0
pub data Called (M : ℕ → Bool) (n : ℕ) (h : Heap) : Request → Outcome → Type 0 where
  refuse : {x : Request} → Called M n h x (outcome h denied)
  grant : {x : Request} {o : ℕ} {k : Kind} {g : Heap} {c : ℕ} → Asks x o k → Granted M n h g o c k → free_block M (5 - o) g o c ≡ h
      → Called M n h x (outcome g (page (first o c)))
  return : {p o : ℕ} → OutHead M h.at o p → Freed M n h (free_page M h p) o (cell o p) → Called M n h (on to_free p) (outcome (free_page M h p) done)
  more : {p i : ℕ} → FilePage M h.at p i → Called M n h (on to_get p) (outcome (recount h p (i + 1)) (counted (i + 1)))
  less : {p i : ℕ} → FilePage M h.at p (suc (suc i)) → Called M n h (on to_put p) (outcome (recount h p (suc i)) (counted (suc i)))
  last : {p : ℕ} → FilePage M h.at p 1 → Freed M n h (free_page M h p) 0 (cell 0 p) → Called M n h (on to_put p) (outcome (free_page M h p) (counted 0))

-- a request that is answered with page p: the block granted there
pub record Paged (M : ℕ → Bool) (n : ℕ) (h : Heap) (x : Request) (g : Heap) (p : ℕ) : Type 0 where
  pub order : ℕ
  pub kind : Kind
  pub asks : Asks x order kind
  pub head : Head order p
  pub granted : Granted M n h g order (cell order p) kind
  pub undo : free_block M (5 - order) g order (cell order p) ≡ h

module _ {M : ℕ → Bool} {n : ℕ} (bound : (p : ℕ) → T (M p) → p < n) (h : Heap) (s : SoundHeap M n h) where
  asked : {x : Request} {o : ℕ} {k : Kind} → Asks x o k → (a : Grant) → Answers M n h o k a
      → ((g : Heap) (c : ℕ) → a ≡ granted g c → free_block M (5 - o) g o c ≡ h) → Called M n h x (grants h o a)
  unfolding grants
  asked y refused _ _ = refuse
  asked y (granted g c) r undo = grant y r (undo g c refl)

  asked-page : {x : Request} (k : Kind) → Asks x 0 k → Fits k 0 → Called M n h x (grants h 0 (grant_as k (allocate h 0)))
  asked-page k y fits = asked y (grant_as k (allocate h 0)) (page-answers bound h s k fits (asks-busy y)) (page-freed bound h s k)

  -- orders above 5 have no list
  large : (o : ℕ) → (o ≤ 5 → ⊥) → (a : Grant) → Allocated h o a → Called M n h (for_block o) (grants h o a)
  unfolding grants
  large o l _ (none _) = refuse
  large o l _ (some k p ps v _ _) = absurd (l (omega arith))

  on-file : {x : Request} (p : ℕ) → T (M p) → (f : ℕ → Outcome) → ((i : ℕ) → FilePage M h.at p i → Called M n h x (f i))
      → Called M n h x (on_file h (h.at p).kind f)
  unfolding on_file
  on-file {x} p m f call-file = go (h.at p).kind refl
    where
      go : (k : Kind) → (h.at p).kind ≡ k → Called M n h x (on_file h k f)
      go free e = refuse
      go used e = refuse
      go (slab i) e = refuse
      go (file i) e = call-file i (file-page s.core.tiled m e)

  put-called : (p i : ℕ) → FilePage M h.at p i → Called M n h (on to_put p) (outcome (put_to M h p (i - 1)) (counted (i - 1)))
  unfolding put_to
  put-called p zero f = absurd (omega (arith, f.positive))
  put-called p (suc zero) f = last f (free-page bound s (file-out f))
  put-called p (suc (suc i)) f = let e : suc (suc i) - 1 ≡ suc i = omega arith in rw e (less f)

  pub called : (x : Request) → Called M n h x (call M h x)
  unfolding call file_page slab_page
  called (for_block o) = by_cases (dec_le o 5)
      (λ l. asked (plain l) (allocate h o) (allocate-answers s bound o l) (grant-freed bound h s o))
      (λ l. large o l (allocate h o) (allocated h o))
  called for_file = asked-page (file 1) filed (refl, omega arith)
  called (for_slab i) = by-test (good_item i)
      (λ e. rw e (asked-page (slab i) (slabbed e) (refl, e)))
      (λ e. rw e refuse)
  called (on to_free p) = by-test (out_at M h p)
      (λ e. rw e (return (out_at-head M h p e) (free-page bound s (out_at-head M h p e))))
      (λ e. rw e refuse)
  called (on to_get p) = by-test (M p) (λ e. rw e (on-file p (rw e tt) _ (λ i f. more f))) (λ e. rw e refuse)
  called (on to_put p) = by-test (M p) (λ e. rw e (on-file p (rw e tt) _ (put-called p))) (λ e. rw e refuse)

  pub paged : (x : Request) (p : ℕ) → (call M h x).answer ≡ page p → Paged M n h x (call M h x).heap p
  paged x p = go x (call M h x) (called x)
    where
      go : (x : Request) (r : Outcome) → Called M n h x r → r.answer ≡ page p → Paged M n h x r.heap p
      go x _ refuse e = never (cc)
      go x _ (grant {o = o} {c = c} a r undo) e =
          let s : first o c ≡ p = cc in
          rw (← s) (record { order = o; kind = _; asks = a; head = head_first o c; granted = rw (cell-first o c) r; undo = rw (cell-first o c) undo })
      go _ _ (return _ _) e = never (cc)
      go _ _ (more _) e = never (cc)
      go _ _ (less _) e = never (cc)
      go _ _ (last _ _) e = never (cc)
