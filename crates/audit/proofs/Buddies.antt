-- Buddies: of two free buddies one is the lower half of a block one order up, so it is enough to look at lower halves; and the upper one stands
-- where the lower one ends, so a walk from block to block meets them one after the other.
use Rattle.common.specs.Kit.{ℕ, zero, suc, ◌+◌, ◌-◌, ◌*◌, ◌/◌, ◌%◌, ◌^◌, ◌≤◌, ◌<◌, ◌≡◌, sym, ap, ◌∙◌, subst, Bool, true, false, not, ◌&&◌, and-false, and_assoc, List, eqb, pow_pos, ℕ_discrete, dec_lt, arith, eq-eqb, ne_eqb, lt-ltb, le-ltb, eqb-true}
use native.Mathlib.Nat.{mul-mod_left, mul-div_cancel}
use mathlib.Core.Bool.{and_comm}
use lib.Pow.{split, mod-pow-add}
use Rattle.pages.specs.Said.{said}
use Rattle.pages.specs.Meaning.{free_order}
use Rattle.region.specs.Pages.{Tiled, FreeBlock, buddy_of, NoBuddies}
use Rattle.audit.specs.Decides.{Decides}
use Rattle.audit.specs.Check.{is_free, lower_half, lonely}
use Rattle.audit.specs.Survey.{upper_half}
use Rattle.audit.proofs.Limit.{Bounded}
use Rattle.audit.proofs.Decisions.{decide-as, decide_eq, decide-lt, decide-and, decide-not, decide-all}
use Rattle.audit.proofs.Tiling.{free-block}
use Rattle.audit.proofs.Listing.{decide-free}

buddy-lower : (o p : ℕ) → p % 2 ^ (o + 1) ≡ 0 → buddy_of o p ≡ p + 2 ^ o
unfolding buddy_of
buddy-lower o p h = simp (eq-eqb (p % 2 ^ (o + 1)) 0 h)

sizes-mod : (o k : ℕ) → k * 2 ^ o % 2 ^ (o + 1) ≡ k % 2 * 2 ^ o
sizes-mod o k =
    let swap : o + 1 ≡ 1 + o = omega arith in
    rw (swap, mod-pow-add (k * 2 ^ o) 1 o, mul-div_cancel k (pow_pos o), mul-mod_left k (2 ^ o)) (omega arith)

-- of a page that is a multiple of a size, and the page that size on, one is a multiple of twice the size, and one is not
either-half : (o q : ℕ) → q % 2 ^ o ≡ 0 → eqb (q % 2 ^ (o + 1)) 0 ≡ not (eqb ((q + 2 ^ o) % 2 ^ (o + 1)) 0)
either-half o q h =
    let k = q / 2 ^ o in
    let at : q ≡ k * 2 ^ o = omega (arith, split q o) in
    let on : q + 2 ^ o ≡ (k + 1) * 2 ^ o = omega (arith, at) in
    let none : eqb (0 * 2 ^ o) 0 ≡ true = eq-eqb (0 * 2 ^ o) 0 (omega arith) in
    let some : eqb (1 * 2 ^ o) 0 ≡ false = ne_eqb (1 * 2 ^ o) 0 (omega (arith, pow_pos o)) in
    rw (ap (λ i. i % 2 ^ (o + 1)) at ∙ sizes-mod o k, ap (λ i. i % 2 ^ (o + 1)) on ∙ sizes-mod o (k + 1))
    (elim (ℕ_discrete (k % 2) 0) [
      | yes z ↦ let n : (k + 1) % 2 ≡ 1 = omega arith in rw (z, n, none, some)
      | no d ↦
          let n : k % 2 ≡ 1 = omega arith in
          let z : (k + 1) % 2 ≡ 0 = omega arith in
          rw (n, z, some, none)
    ])

-- a page that is a multiple of a size, and not of twice that, is the upper half: its buddy is the lower one
buddy-upper : (o p : ℕ) → p % 2 ^ o ≡ 0 → (p % 2 ^ (o + 1) ≡ 0 → ⊥) → (buddy_of o p % 2 ^ (o + 1) ≡ 0) × (buddy_of o p + 2 ^ o ≡ p)
unfolding buddy_of
buddy-upper o p h n = rw (ne_eqb (p % 2 ^ (o + 1)) 0 n) (at (p / 2 ^ o) (omega (arith, split p o)))
  where
    at : (k : ℕ) → p ≡ k * 2 ^ o → ((p - 2 ^ o) % 2 ^ (o + 1) ≡ 0) × (p - 2 ^ o + 2 ^ o ≡ p)
    at zero q = absurd (n (rw q (sizes-mod o 0 ∙ omega arith)))
    at (suc k) q =
        let on : p - 2 ^ o + 2 ^ o ≡ p = omega (arith, q) in
        let below : p - 2 ^ o ≡ k * 2 ^ o = omega (arith, q) in
        let low : (p - 2 ^ o) % 2 ^ o ≡ 0 = rw below (mul-mod_left k (2 ^ o)) in
        (eqb-true _ 0 (either-half o (p - 2 ^ o) low ∙ rw (on, ne_eqb (p % 2 ^ (o + 1)) 0 n)), on)

module _ (ws : List ℕ) (M : ℕ → Bool) where
  pub high_half : (o p : ℕ) → 5 ≤ o → lower_half ws M o p ≡ false
  unfolding lower_half
  high_half o p h = simp (le-ltb o 5 h, and-false)

  -- whether a free block is the lower one of two buddies shows at the page behind it
  pub half-next :
      (o p : ℕ) → p % 2 ^ o ≡ 0 → is_free ws M o p ≡ true →
      lower_half ws M o p ≡ (M (p + 2 ^ o) && upper_half o (free_order (said ws (p + 2 ^ o))) (p + 2 ^ o))
  unfolding lower_half is_free upper_half
  half-next o p h f =
      let q = p + 2 ^ o in
      rw (f, either-half o p h)
      (elim (dec_lt o 5) [
        | yes l ↦
            rw (lt-ltb o 5 l)
            (and_comm (not (eqb (q % 2 ^ (o + 1)) 0)) (M q && eqb (free_order (said ws q)) o) ∙ and_assoc (M q) (eqb (free_order (said ws q)) o) _)
        | no n ↦ rw (le-ltb o 5 (omega arith)) (sym (and-false (M q)))
      ])

  -- page p heads the lower one of two free buddies
  abbrev Half : ℕ → ℕ → Type 0
  Half o p = FreeBlock ws M o p × ((o < 5) × ((p % 2 ^ (o + 1) ≡ 0) × FreeBlock ws M o (p + 2 ^ o)))

  decide-half : (o p : ℕ) → Decides (lower_half ws M o p) (Half o p)
  unfolding lower_half
  decide-half o p =
      decide-and (decide-free ws M o p)
      (λ _. decide-and (decide-lt o 5) (λ _. decide-and (decide_eq (p % 2 ^ (o + 1)) 0) (λ _. decide-free ws M o (p + 2 ^ o))))

  pub decide-buddies : {e : ℕ} → Bounded M e → Tiled ws M → Decides (lonely ws M e) (NoBuddies ws M)
  decide-buddies {e} bound t =
      decide-as to from (decide-all 0 e (λ p _ _. decide-not (decide-half (free_order (said ws p)) p)))
    where
      to : ((p : ℕ) → 0 ≤ p → p < 0 + e → Half (free_order (said ws p)) p → ⊥) → NoBuddies ws M
      to none =
          record {
            none = λ o p l f g.
                elim (ℕ_discrete (p % 2 ^ (o + 1)) 0) [
                  | yes z ↦ at (f, (l, (z, subst (FreeBlock ws M o) (buddy-lower o p z) g)))
                  | no z ↦
                      let b = buddy-upper o p (free-block ws M (omega arith) t f).aligned z in
                      at (g, (l, (b.0, subst (FreeBlock ws M o) (sym b.1) f)))
                ];
          }
        where
          at : {o p : ℕ} → Half o p → ⊥
          at {o} {p} h = none p (omega arith) (omega (arith, bound.below p h.0.managed)) (subst (λ n. Half n p) (sym h.0.is) h)

      from : NoBuddies ws M → (p : ℕ) → 0 ≤ p → p < 0 + e → Half (free_order (said ws p)) p → ⊥
      from n p _ _ x = n.none _ p x.1.0 x.0 (rw (buddy-lower (free_order (said ws p)) p x.1.1.0) x.1.1.1)
