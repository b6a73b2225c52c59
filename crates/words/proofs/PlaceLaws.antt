-- From a page to its address and back, and from an address that starts a page to the page and back. These are results.
use Rattle.common.specs.Kit.{ℕ, ◌+◌, ◌-◌, ◌*◌, ◌/◌, ◌%◌, ◌^◌, ◌≤◌, ◌<◌, ◌≡◌, refl, subst, eqb, leb, ltb, arith, lt-ltb, le-ltb, lt-leb, eqb-true, ltb-false, leb-false, Option, Some, None}
use Rattle.common.proofs.Tests.{by-test}
use Rattle.words.specs.Place.{page_at, address_at}
use Rattle.words.specs.declared.place.PageNumber.{PageNumber}
use Rattle.words.specs.declared.place.VirtAddr.{VirtAddr}
use Rattle.words.specs.declared.place.PageAt.{PageAt}
use Rattle.words.specs.declared.place.PageAt.TheVariants.{Start, Within}

module _ (start pages : ℕ) where
  pub address-of : (p : ℕ) → p < pages → start + p * 4096 < 2 ^ 64 → address_at start pages p ≡ Some (record { 0 = start + p * 4096 })
  unfolding address_at
  address-of p h b = simp (lt-leb _ _ h, lt-ltb _ _ b)

  pub page-of : (p : ℕ) → p < pages → page_at start pages (start + p * 4096) ≡ Start (record { 0 = p })
  unfolding page_at
  page-of p h =
      let b : start ≤ start + p * 4096 = omega arith in
      let q : (start + p * 4096 - start) / 4096 ≡ p = omega arith in
      let r : (start + p * 4096 - start) % 4096 ≡ 0 = omega arith in
      simp (le-ltb _ _ b, q, lt-leb _ _ h, r)

  -- what an answer says of the address
  abbrev pub Starts : ℕ → PageAt → Type 0
  Starts a (Start p) = (p.0 < pages) × (a ≡ start + p.0 * 4096)
  Starts a (Within p) = p.0 < pages
  Starts a PageAt.Outside = Unit {0}

  pub starts : (a : ℕ) → Starts a (page_at start pages a)
  unfolding page_at
  starts a =
      by-test (ltb a start) (λ t. rw t tt)
      (λ t. rw t
      (by-test (leb pages ((a - start) / 4096)) (λ u. rw u tt)
      (λ u. rw u
      (by-test (eqb ((a - start) % 4096) 0)
      (λ v. rw v (leb-false _ _ u, omega (arith, ltb-false a start t, eqb-true ((a - start) % 4096) 0 v)))
      (λ v. rw v (leb-false _ _ u))))))

  abbrev Lies : ℕ → Option VirtAddr → Type 0
  Lies p (Some a) = (p < pages) × (a.0 ≡ start + p * 4096)
  Lies p None = Unit {0}

  lies : (p : ℕ) → Lies p (address_at start pages p)
  unfolding address_at
  lies p =
      by-test (leb pages p) (λ t. rw t tt)
      (λ t. rw t (by-test (ltb (start + p * 4096) (2 ^ 64)) (λ u. rw u (leb-false _ _ t, refl)) (λ u. rw u tt)))

  -- the page at an address that starts it has that address
  pub page-address : (a : ℕ) (p : PageNumber) → a < 2 ^ 64 → page_at start pages a ≡ Start p → address_at start pages p.0 ≡ Some (record { 0 = a })
  page-address a p b e =
      let s : Starts a (Start p) = subst (Starts a) e (starts a) in
      rw s.1 (address-of p.0 s.0 (omega arith))

  -- the address of a page is where that page starts
  pub address-page : (p : ℕ) (a : VirtAddr) → address_at start pages p ≡ Some a → page_at start pages a.0 ≡ Start (record { 0 = p })
  address-page p a e = let l : Lies p (Some a) = subst (Lies p) e (lies p) in rw l.1 (page-of p l.0)
