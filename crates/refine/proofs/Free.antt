-- Rule 5 on record and words is rule 5 on the heap: every turn is safe, tests the buddy alike, and leads to the image of the heap's turn.
use Rattle.common.specs.Kit.{ℕ, zero, suc, ◌+◌, ◌-◌, ◌/◌, ◌<◌, ◌≡◌, sym, ◌∙◌, Bool, true, false, false≢true, pow_pos, arith}
use Rattle.common.proofs.Tests.{by-test}
use Rattle.buddy.specs.Runs.{first, buddy}
use Rattle.buddy.specs.Heap.{Heap}
use Rattle.buddy.specs.Rules.{free_at, free_block}
use Rattle.buddy.proofs.Paint.{BlockOut}
use Rattle.buddy.proofs.Free.{join, free_block-stop, free_block-up, buddy-free, pair-out, join-out, join-sound, free-result}
use Rattle.region.specs.Steps.{joins, join as join_state, TryOk, free_from, FreeOk}
use Rattle.refine.specs.Image.{region_of, image}
use Rattle.region.specs.declared.HeapMemoryRegion.{HeapMemoryRegion}
use Rattle.refine.specs.Fit.{SoundFit}
use Rattle.region.proofs.Limits.{pages-small}
use Rattle.refine.proofs.Shown.{words_long}
use Rattle.refine.proofs.Halves.{first_above, lower-page}
use Rattle.refine.proofs.Step.{Lent, Step, Rule, cut_small, run-below}
use Rattle.refine.proofs.Put.{put-image}
use Rattle.refine.proofs.Join.{JoinOk, joins_true, joins-image, join-image}

module _ {M : ℕ → Bool} {r : HeapMemoryRegion} (lent : Lent r) where
  module _ {h : Heap} (f : SoundFit M r h) {o c : ℕ} (out : BlockOut M h.at o c) where
    turn-image : o < 5 → free_at M h o (first o (buddy c)) ≡ true
        → Step M r (JoinOk (first o c) o (image r h)) (join_state (first o c) o (image r h)) (join h o c)
    turn-image valid is = join-image f.fits lent o c valid
        (buddy-free f.fits.within f.sound valid out is) (pair-out f.fits.within f.sound valid out is)

    pub try_ok : TryOk (first o c) o (image r h)
    unfolding region_of
    try_ok = record {
      neighbor = record {
        order = omega (arith, cut_small f.fits out.cut);
        page = omega (arith, run-below f.fits out.cut, pow_pos o, pages-small r.page_count lent.most);
        above = first_above o c _;
      };
      words = rw (words_long r h) (omega arith);
      pulled = λ e. (joined e).pulled;
      merged = λ e. (joined e).merged;
    }
      where
        joined : joins (first o c) o (image r h) ≡ true → JoinOk (first o c) o (image r h)
        joined e = let valid = (joins_true f.fits lent o (first o c) e).0 in (turn-image valid (sym (joins-image f.fits lent o c valid) ∙ e)).ok

  free-steps : (left o c : ℕ) {h : Heap} → left + o ≡ 5 → SoundFit M r h → BlockOut M h.at o c
      → Step M r (FreeOk left (first o c) o (image r h)) (free_from left (first o c) o (image r h)) (free_block M left h o c)
  unfolding FreeOk free_from free_block
  free-steps zero o c l f out =
      let s = put-image f.fits lent out in
      record { ok = (try_ok f out, s.ok); leaves = s.leaves; fits = s.fits }
  free-steps (suc left) o c {h} l f out = by-test (free_at M h o (first o (buddy c)))
      (λ is.
      let valid : o < 5 = omega arith in
      let e : joins (first o c) o (image r h) ≡ true = joins-image f.fits lent o c valid ∙ is in
      let turn = turn-image f out valid is in
      let fit : SoundFit M r (join h o c) = record { fits = turn.fits; sound = join-sound f.fits.within f.sound valid out is } in
      let s = free-steps left (suc o) (c / 2) (omega arith) fit (join-out f.fits.within f.sound valid out is) in
      rw (free_block-up M left h o c is, e, lower-page o c, turn.leaves)
      (record { ok = (try_ok f out, (λ _. s.ok, λ x. absurd (false≢true (sym x)))); leaves = s.leaves; fits = s.fits }))
      (λ is.
      let e : joins (first o c) o (image r h) ≡ false = joins-image f.fits lent o c (omega arith) ∙ is in
      let s = put-image f.fits lent out in
      rw (free_block-stop M left h o c is, e)
      (record { ok = (try_ok f out, (λ x. absurd (false≢true x), λ _. s.ok)); leaves = s.leaves; fits = s.fits }))

pub free-image : {M : ℕ → Bool} {r : HeapMemoryRegion} {h : Heap} {o c : ℕ} → SoundFit M r h → Lent r → BlockOut M h.at o c
    → Rule M r (FreeOk (5 - o) (first o c) o (image r h)) (free_from (5 - o) (first o c) o (image r h)) (free_block M (5 - o) h o c)
free-image {h = h} {o = o} {c = c} f lent out =
    let l : 5 - o + o ≡ 5 = omega (arith, cut_small f.fits out.cut) in
    let s = free-steps lent (5 - o) o c l f out in
    let freed = free-result f.fits.within (5 - o) h o c l f.sound out in
    record { ok = s.ok; leaves = s.leaves; fit = record { fits = s.fits; sound = freed.sound } }
