-- Steps of set-up in turn are steps of the heap in turn: runs of one order, ascending.
use Rattle.common.specs.Kit.{ℕ, zero, suc, ◌+◌, ◌-◌, ◌*◌, ◌^◌, ◌≤◌, ◌<◌, ◌≡◌, refl, by_cases, T, ℕ_discrete, arith}
use Rattle.buddy.specs.Runs.{cell, first}
use Rattle.buddy.specs.Rules.{State, grow, grow_many}
use Rattle.buddy.proofs.RunLaws.{cell-zero}
use Rattle.buddy.proofs.Spans.{span-out}
use Rattle.buddy.proofs.Add.{New}
use Rattle.buddy.proofs.SetUp.{grow_many-managed}
use Rattle.region.specs.Layout.{end_of}
use Rattle.refine.specs.Image.{image}
use Rattle.region.specs.declared.HeapMemoryRegion.{HeapMemoryRegion}
use Rattle.refine.specs.Fit.{SoundFit}
use Rattle.refine.proofs.Step.{Lent, Rule}
use Rattle.setup.specs.Steps.{grow_blocks, GrowBlocksOk}
use Rattle.setup.proofs.Grow.{grow-image}

-- k runs of order o, from number c on, whose first page is p
abbrev pub Grown : HeapMemoryRegion → ℕ → ℕ → ℕ → ℕ → State → Type 0
Grown r o c p k s = Rule (grow_many o c k s).managed r (GrowBlocksOk o p k (image r s.heap)) (grow_blocks o p k (image r s.heap))
    (grow_many o c k s).heap

first-zero : (c : ℕ) → first 0 c ≡ c
unfolding first
first-zero c = omega arith

first_more : (o c k : ℕ) → first o c + k * 2 ^ o ≡ first o (c + k)
unfolding first
first_more o c k = omega arith

module _ {r : HeapMemoryRegion} (lent : Lent r) (s : State) (f : SoundFit s.managed r s.heap) where
  pub many-image : (o c : ℕ) → o ≤ 5 → (k : ℕ) → ((i : ℕ) → c ≤ i → i < c + k → New s.managed (end_of r) o i) → Grown r o c (first o c) k s
  unfolding grow_many grow grow_blocks
  many-image o c valid zero runs = record { ok = record { order = omega arith; turn = λ i l. absurd (omega arith) }; leaves = refl; fit = f }
  many-image o c valid (suc k) runs =
      let before = many-image o c valid k (λ i x y. runs i x (omega arith)) in
      let next = runs (c + k) (omega arith) (omega arith) in
      let turn = grow-image before.fit o (c + k) valid (record {
        fresh = λ q e t. next.fresh q e (rw (grow_many-managed o c s k q, span-out c (c + k) (cell o q) (omega arith)) at t);
        room = next.room;
      }) lent in
      record {
        ok = record {
          order = omega arith;
          turn = λ i l. by_cases (ℕ_discrete i k)
              (λ e. rw (e, before.leaves, first_more o c k) turn.ok)
              (λ e. before.ok.turn i (omega arith));
        };
        leaves = rw (before.leaves, first_more o c k) turn.leaves;
        fit = turn.fit;
      }

  -- the pages from a up to e, one by one
  pub pages-image : (a e : ℕ) → e ≤ end_of r → ((q : ℕ) → a ≤ q → q < e → T (s.managed q) → ⊥) → Grown r 0 a a (e - a) s
  pages-image a e high fresh = rw (first-zero a) at (many-image 0 a (omega arith) (e - a) (λ i x y. record {
    fresh = λ q k. fresh q (omega (arith, cell-zero q)) (omega (arith, cell-zero q));
    room = λ q k. omega (arith, cell-zero q);
  }))
