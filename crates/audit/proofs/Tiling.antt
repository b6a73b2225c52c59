-- Tilings: a test that goes from block to block decides whether the pages of a set M are tiled, since in a tiling a page that heads an order
-- starts a block.
use Rattle.common.specs.Kit.{ℕ, zero, suc, ◌+◌, ◌-◌, ◌%◌, ◌^◌, ◌≤◌, ◌<◌, ◌≡◌, refl, ap, ◌∙◌, ◌≢◌, ◌↔◌, subst, Bool, true, false, cond, ◌&&◌, ◌||◌, List, T, eqb, leb, pow_pos, le_refl, ℕ_discrete, dec_lt, arith, lt-ltb, le-leb, lt-leb, Option, Some, None}
use Rattle.common.proofs.Tests.{by-test}
use Rattle.words.specs.declared.word.PageInfo.TheVariants.{Free, Allocated, Slab, Compound, File, Reserved}
use Rattle.buddy.specs.Rules.{span}
use Rattle.buddy.proofs.Spans.{T-span, span-T}
use Rattle.pages.specs.Info.{compound_info}
use Rattle.pages.specs.Said.{said}
use Rattle.pages.specs.Meaning.{head_order, free_order}
use Rattle.region.specs.Pages.{Block, InBlock, Tiled, FreeBlock}
use Rattle.audit.specs.Decides.{Decides}
use Rattle.audit.specs.Check.{all, all_say, block_at, tiles}
use Rattle.audit.proofs.Limit.{Bounded}
use Rattle.audit.proofs.Decisions.{decide-as, decide-same, decide_eq, decide-le, decide-lt, decide_T, decide-and, decide-all}
use Rattle.audit.proofs.Saying.{decide-say}
use Rattle.words.specs.declared.word.PageInfo.{PageInfo}

pub free-head : (d : Option PageInfo) → free_order d < 6 → head_order d ≡ free_order d
free-head (Some (Free fi)) h = refl
free-head (Some (Allocated ai)) h = absurd (omega arith)
free-head (Some (Slab si)) h = absurd (omega arith)
free-head (Some (Compound ci)) h = absurd (omega arith)
free-head (Some (File fi)) h = absurd (omega arith)
free-head (Some (Reserved ri)) h = absurd (omega arith)
free-head None h = absurd (omega arith)

module _ (ws : List ℕ) (M : ℕ → Bool) where
  -- a page that starts a block starts one of the order that it heads
  its-block : {p : ℕ} (i : InBlock ws M p) → i.page ≡ p → Block ws M p (head_order (said ws p))
  its-block {p} i q = let b = subst (λ n. Block ws M n i.order) q i.block in rw b.head b

  pub free-block : {o p : ℕ} → o < 6 → Tiled ws M → FreeBlock ws M o p → Block ws M p o
  free-block {o} {p} h t f =
      let s : free_order (said ws p) < 6 = omega (arith, f.is) in
      let q = free-head (said ws p) s ∙ f.is in
      let i = t.each p f.managed in
      elim (ℕ_discrete i.page p) [
        | yes e ↦ subst (Block ws M p) q (its-block i e)
        | no n ↦ absurd (omega (arith, q, ap head_order (i.block.rest.each p (omega (arith, i.low)) i.high)))
      ]

  -- the pages of M from p on lie in blocks from p on
  abbrev pub TiledFrom : ℕ → Type 0
  TiledFrom p = (q : ℕ) → T (M q) → p ≤ q → (i : InBlock ws M q) × (p ≤ i.page)

  -- no block starts at a page that is not in M
  pub over : {p : ℕ} → M p ≡ false → TiledFrom p ↔ TiledFrom (p + 1)
  over {p} out = (
    λ t q m l.
        let i = t q m (omega arith) in
        (i.0, omega (arith, i.1, other (i.0.block.inside i.0.page (le_refl _) (omega (arith, pow_pos i.0.order))))),
    λ t q m l. let i = t q m (omega (arith, other m)) in (i.0, omega (arith, i.1)),
  )
    where
      other : {q : ℕ} → T (M q) → q ≢ p
      other m e = rw (e, out) at m

  pub starts : {p : ℕ} → M p ≡ true → TiledFrom p → Block ws M p (head_order (said ws p))
  starts {p} on t = let i = t p (rw on tt) (le_refl p) in its-block i.0 (omega (arith, i.1, i.0.low))

  -- a block from p on that is not the one at p starts behind it
  pub behind : {p : ℕ} → Block ws M p (head_order (said ws p)) → TiledFrom p ↔ TiledFrom (p + 2 ^ head_order (said ws p))
  behind {p} b = (
    λ t q m l.
        let size = pow_pos o in
        let r = t q m (omega arith) in
        let i = r.0 in (
          i,
          elim (dec_lt i.page (p + 2 ^ o)) [
            | yes k ↦ elim (ℕ_discrete i.page p) [
              | yes e ↦ absurd (omega (arith, i.high, ap (λ n. 2 ^ n) i.block.head, ap (λ n. 2 ^ head_order (said ws n)) e))
              | no n ↦ absurd (omega (arith, i.block.small, i.block.head, ap head_order (b.rest.each i.page (omega (arith, r.1)) k)))
            ]
            | no k ↦ omega arith
          ],
        ),
    λ t q m l.
        elim (dec_lt q (p + 2 ^ o)) [
          | yes k ↦ (record { page = p; order = o; block = b; low = l; high = k }, le_refl p)
          | no k ↦ let i = t q m (omega arith) in (i.0, omega (arith, i.1))
        ],
  )
    where
      o : ℕ
      o = head_order (said ws p)

  pub decide-block : (p o : ℕ) → head_order (said ws p) ≡ o → Decides (block_at ws M p o) (Block ws M p o)
  unfolding block_at
  decide-block p o q =
      decide-as
      (λ x. record { small = x.0; aligned = x.1.0; inside = x.1.1.0; head = q; rest = x.1.1.1 })
      (λ b. (b.small, (b.aligned, (b.inside, b.rest))))
      (decide-and (decide-lt o 6)
      (λ s. decide-and (decide_eq (p % 2 ^ o) 0)
      (λ _. decide-and (decide-all p (2 ^ o) (λ q _ _. decide_T (M q)))
      (λ _. decide-say ws (p + 1) (p + 2 ^ o) (compound_info o) (lt-ltb o 6 s) (λ w e. e)))))

  module _ {e : ℕ} (bound : Bounded M e) where
    pub none_left : {p : ℕ} → e ≤ p → TiledFrom p
    none_left h q m l = absurd (omega (arith, bound.below q m))

    -- at page p: the pages end, or it is not in M and they go on behind it, or a block stands there and they go on behind that
    tiles-at : (p : ℕ) (next skip : Bool) →
        (Block ws M p (head_order (said ws p)) → Decides next (TiledFrom (p + 2 ^ head_order (said ws p)))) → Decides skip (TiledFrom (p + 1)) →
        Decides (leb e p || cond (M p) (block_at ws M p (head_order (said ws p)) && next) skip) (TiledFrom p)
    tiles-at p next skip dn ds =
        elim (dec_lt p e) [
          | yes i ↦ rw (lt-leb e p i) (by-test (M p)
              (λ on. rw on
              (decide-as (λ x. (behind x.0).1 x.1) (λ t. let b = starts on t in (b, (behind b).0 t)) (decide-and (decide-block p _ refl) dn)))
              (λ out. rw out (decide-as (over out).1 (over out).0 ds)))
          | no i ↦ record { yes = λ _. none_left (omega arith); back = λ _. rw (le-leb e p (omega arith)) }
        ]

    pub tiles-from : (n p : ℕ) → e ≤ p + n → Decides (tiles ws M e n p) (TiledFrom p)
    unfolding tiles
    tiles-from zero p l = record { yes = λ _. none_left (omega arith); back = λ _. le-leb e p (omega arith) }
    tiles-from (suc n) p l =
        let size = pow_pos (head_order (said ws p)) in
        tiles-at p _ _ (λ b. tiles-from n (p + 2 ^ head_order (said ws p)) (omega arith)) (tiles-from n (p + 1) (omega arith))

    pub decide-tiles : Decides (tiles ws M e e 0) (Tiled ws M)
    decide-tiles =
        decide-as (λ t. record { each = λ q m. (t q m (omega arith)).0 }) (λ t q m _. (t.each q m, omega arith)) (tiles-from e 0 (omega arith))

-- where the pages are those from a up to e, whether a block lies in them shows at its end
pub all-span : (a e p n : ℕ) → a ≤ p → 0 < n → all (span a e) p n ≡ leb (p + n) e
all-span a e p n h k =
    decide-same (decide-all p n (λ q _ _. decide_T (span a e q)))
    (decide-as (λ l q x y. span-T a e q (omega arith) (omega arith))
    (λ t. let x = T-span a e (p + n - 1) (t (p + n - 1) (omega arith) (omega arith)) in omega arith) (decide-le (p + n) e))

-- the tests of a block of n pages there, one after the other
pub block_tests :
    (ws : List ℕ) (a e p o n : ℕ) → o < 6 → (a ≤ p) × (p ≤ e) → n ≡ 2 ^ o →
    block_at ws (span a e) p o ≡ (eqb (p % n) 0 && (leb n (e - p) && all_say ws (p + 1) (p + n) (compound_info o)))
unfolding block_at
block_tests ws a e p o n s h q =
    let fits : leb (p + 2 ^ o) e ≡ leb (2 ^ o) (e - p) =
    decide-same (decide-le (p + 2 ^ o) e) (decide-as (λ x. omega (arith, h.1)) (λ x. omega (arith, h.1)) (decide-le (2 ^ o) (e - p))) in
    rw (q, lt-ltb o 6 s, all-span a e p (2 ^ o) h.0 (pow_pos o), fits)
