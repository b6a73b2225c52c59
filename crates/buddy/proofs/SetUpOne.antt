-- What `SetUp` says of a state fixes it: all managed pages are free, so the blocks are the largest runs, and the lists fall.
use Rattle.common.specs.Kit.{ℕ, ◌≤◌, ◌≡◌, sym, ap, ◌∙◌, fun_ext, ◌↔◌, by_cases, Memᴰ, T, dec_le, arith}
use Rattle.common.specs.Numbers.{count}
use Rattle.common.proofs.Tests.{by-test}
use Rattle.common.proofs.Lists.{falling-one}
use Rattle.buddy.specs.Heap.{free, heads}
use Rattle.buddy.specs.Rules.{State, span}
use Rattle.buddy.proofs.Canon.{canon, canon-lists}
use Rattle.buddy.proofs.SetUp.{SetUp}
use Rattle.buddy.proofs.Refill.{heap-path}

module _ {a e : ℕ} where
  free-alike : {s t : State} → SetUp a e s → SetUp a e t → (q : ℕ) → T (span a e q) → ((s.heap.at q).kind ≡ free) ↔ ((t.heap.at q).kind ≡ free)
  free-alike x y q m = (λ _. y.all-free q m, λ _. x.all-free q m)

  listed-alike : {s t : State} → SetUp a e s → SetUp a e t → (o p : ℕ) → o ≤ 5 → Memᴰ p (s.heap.list o) → Memᴰ p (t.heap.list o)
  listed-alike x y = canon-lists (span a e) x.sound y.sound (free-alike x y)

-- what set-up leaves is fixed by this: every tag, every list in its order, every count. A result.
pub set-up-one : {a e : ℕ} {s t : State} → SetUp a e s → SetUp a e t → s ≡ t
set-up-one {a} {e} {s} {t} x y = λ i. record {
  managed = (x.managed ∙ sym y.managed) i;
  heap = heap-path s.heap t.heap tags lists counts i;
}
  where
    tags : (q : ℕ) → s.heap.at q ≡ t.heap.at q
    tags q = by-test (span a e q)
        (λ b. canon (span a e) x.sound y.sound (free-alike x y) q (rw b tt) (x.all-free q (rw b tt)))
        (λ b. x.clean.tags q (λ m. rw b at m) ∙ sym (y.clean.tags q (λ m. rw b at m)))

    lists : (o : ℕ) → s.heap.list o ≡ t.heap.list o
    lists o = by_cases (dec_le o 5)
        (λ l. falling-one _ _ (x.falls o) (y.falls o) (λ p. (listed-alike x y o p l, listed-alike y x o p l)))
        (λ l. x.clean.lists o (omega arith) ∙ sym (y.clean.lists o (omega arith)))

    counts : (o : ℕ) → s.heap.blocks o ≡ t.heap.blocks o
    counts o = by_cases (dec_le o 5)
        (λ l. x.sound.core.counted o l ∙ ap (λ at. count (heads (span a e) at o) e) (fun_ext tags) ∙ sym (y.sound.core.counted o l))
        (λ l. x.clean.counts o (omega arith) ∙ sym (y.clean.counts o (omega arith)))
