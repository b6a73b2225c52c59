-- At each block, the page that the walk has come to is one of those that are walked, and the order is the one that it heads.
use Rattle.common.specs.Kit.{ℕ, ◌+◌, ◌^◌, ◌≤◌, ◌<◌, ◌≡◌, sym, true, List, get_or, arith, rules, Option, Some, None}
use Rattle.std.specs.Prelude.{IfSome, OnSome, unwrap_or}
use Rattle.words.specs.declared.word.PageInfo.{PageInfo}
use Rattle.buddy.specs.Rules.{span}
use Rattle.buddy.proofs.Spans.{span-in, span-out}
use Rattle.pages.specs.Said.{said}
use Rattle.pages.specs.Meaning.{no_order, head_order, free_order}
use Rattle.region.specs.State.{room}
use Rattle.audit.specs.Check.{block_at}
use Rattle.audit.proofs.Limit.{within-bounded}
use Rattle.audit.proofs.Walk.{walk-to, walk_more, few, block, block-ends, no_block, no_head, a_half, walk_ends}
use Rattle.audit.proofs.survey.survey.Goals as goal
use Rattle.audit.proofs.survey.survey.Goals.{In-loop-pfn, Else-not-block_at}

-- a free block is one of the order that its page heads
free-small : {o : ℕ} (d : Option PageInfo) (fs : List ℕ) (r : Option ℕ) → unwrap_or r no_order ≡ free_order d →
    OnSome r (head_order d ≡ free_order d) → o ≡ head_order d → o < 6 → ((n : ℕ) → get_or fs n 0 < room) →
    IfSome r (λ n. (n < 6) × (get_or fs n 0 < room))
free-small d fs None is its order small count = tt
free-small d fs (Some n) is its order small count = (omega (arith, is, its, order), count n)

-- the page is one of those that are walked
on : (c : In-loop-pfn) → span c.args.pages.from c.args.pages.end c.loop-pfn.pfn ≡ true
on c = span-in _ _ _ c.loop-pfn.invariant.0 (omega arith)

-- past the test for a block
module _ (c : Else-not-block_at) where
  abbrev ws : List ℕ
  ws = c.args.pages.words.now

  here : block_at ws (span c.args.pages.from c.args.pages.end) c.loop-pfn.pfn (head_order (said ws c.loop-pfn.pfn)) ≡ true
  here = rw (← c.read_page_info-said.ensures, ← c.in_ok-order.ensures.order) (sym c.if-not-block_at.ensures)

  fits : (c.in_ok-order.order < 6) × (c.loop-pfn.pfn + 2 ^ c.in_ok-order.order ≤ c.args.pages.end)
  fits =
      let bound = within-bounded c.requires in
      let w = c.loop-pfn.invariant in
      let in_it = span-in _ _ _ w.0 (omega arith) in
      let b = block ws bound w.1 in_it here in
      rw (c.in_ok-order.ensures.order, c.read_page_info-said.ensures) (b.small, block-ends ws bound w.1 in_it b)

pub loop-pfn-init : goal.loop-pfn-init
loop-pfn-init c =
    let k = c.requires in
    (omega arith, walk-to _ (within-bounded k) _ (search rules) _ k.from (λ q l. span-out _ _ q (omega arith)))

pub returns-in_err-order : goal.returns-in_err-order
returns-in_err-order c =
    rw c.from_residual.ensures
    (no_head _ (within-bounded c.requires) c.loop-pfn.invariant.1 (on (goal.at.returns-in_err-order c).In-loop-pfn)
    (rw (← c.read_page_info-said.ensures) (sym c.in_err-order.ensures.order)))

pub returns-then-not-block_at : goal.returns-then-not-block_at
returns-then-not-block_at c =
    no_block _ (within-bounded c.requires) c.loop-pfn.invariant.1 (on (goal.at.returns-then-not-block_at c).In-loop-pfn)
    (rw (← c.read_page_info-said.ensures, ← c.in_ok-order.ensures.order) (sym c.if-not-block_at.ensures))

pub returns-then-is_upper_half : goal.returns-then-is_upper_half
returns-then-is_upper_half c =
    a_half _ (within-bounded c.requires) c.loop-pfn.invariant.1 (on (goal.at.returns-then-is_upper_half c).In-loop-pfn)
    (rw (← c.read_page_info-said.ensures, ← c.free_order-free.ensures.order) (sym c.if-is_upper_half.ensures))

pub note-requires : goal.note-requires
note-requires c =
    let at = goal.at.note-requires c in
    let free = c.free_order-free.ensures in
    let counts = few _ (within-bounded c.requires) c.loop-pfn.invariant.1 (on at.In-loop-pfn) in
    let small = (fits at.Else-not-block_at).0 in
    record {
      small = small;
      few = omega (arith, (counts c.in_ok-order.order).0, c.requires.few);
      free = free-small c.read_page_info-said.result _ _ free.order free.its_head c.in_ok-order.ensures.order small
          (λ n. omega (arith, (counts n).1, c.requires.few));
    }

pub size-pfn-requires : goal.size-pfn-requires
size-pfn-requires c = (fits (goal.at.size-pfn-requires c).Else-not-block_at).0

pub overflow_add-pfn : goal.overflow_add-pfn
overflow_add-pfn c = omega (arith, c.size-pfn.ensures, (fits (goal.at.overflow_add-pfn c).Else-not-block_at).1)

pub loop-pfn-preserved : goal.loop-pfn-preserved
loop-pfn-preserved c =
    let at = goal.at.loop-pfn-preserved c in
    let read = c.read_page_info-said.ensures in
    let free = c.free_order-free.ensures.order in (
      omega arith,
      rw (c.size-pfn.ensures, c.note.ensures, free, c.in_ok-order.ensures.order, read)
          (walk_more _ (within-bounded c.requires) c.loop-pfn.invariant.1 (on at.In-loop-pfn) (here at.Else-not-block_at)
          (rw (← read, ← free) (sym c.if-is_upper_half.ensures))),
    )

pub returns : goal.returns
returns c = walk_ends _ (within-bounded c.requires) c.loop-pfn.invariant.1 (omega arith)
