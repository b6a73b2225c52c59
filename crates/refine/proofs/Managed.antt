-- The managed pages of a region. This file alone knows that they are the pages from `allocated` up to the metadata pages, by the record alone:
-- all other proofs go by these laws.
use Rattle.common.specs.Kit.{ℕ, zero, suc, ◌-◌, ◌≤◌, ◌<◌, ◌≡◌, refl, by_cases, List, T, le_refl, dec_lt, dec_le, arith}
use Rattle.common.specs.Numbers.{count}
use Rattle.common.proofs.Tests.{by-test}
use Rattle.buddy.specs.Heap.{Heap}
use Rattle.buddy.specs.Rules.{span}
use Rattle.buddy.proofs.Spans.{T-span, span-T, span-in, span-out}
use Rattle.region.specs.Layout.{end_of, managed}
use Rattle.region.specs.declared.HeapMemoryRegion.{HeapMemoryRegion}
use Rattle.refine.specs.Image.{region_of, words_of}

module _ (r : HeapMemoryRegion) (ws : List ℕ) (p : ℕ) where
  -- they lie below the metadata pages
  pub managed-below : T (managed r ws p) → p < end_of r
  managed-below m = (T-span r.allocated (end_of r) p m).1

  -- no page below `allocated` is managed
  pub boot-not-managed : p < r.allocated → T (managed r ws p) → ⊥
  boot-not-managed l m = omega (arith, T-span r.allocated (end_of r) p m)

  -- a page below the metadata pages that is not managed is a boot page
  pub not-managed-boot : p < end_of r → (T (managed r ws p) → ⊥) → p < r.allocated
  not-managed-boot l n = by_cases (dec_lt p r.allocated) (λ b. b) (λ b. absurd (n (span-T r.allocated (end_of r) p (omega arith) l)))

-- the record's place decides
pub managed-place : (r s : HeapMemoryRegion) (ws vs : List ℕ) → r.page_count ≡ s.page_count → r.allocated ≡ s.allocated
    → managed r ws ≡ managed s vs
managed-place r s ws vs n a = rw (n, a)

-- so they are the same in all images
pub managed-image : (r : HeapMemoryRegion) (h : Heap) (ws : List ℕ) → managed (region_of r h) (words_of r h) ≡ managed r ws
unfolding region_of
managed-image r h ws = managed-place (region_of r h) r (words_of r h) ws refl refl

-- and those that set-up manages
pub managed-span : (r : HeapMemoryRegion) (ws : List ℕ) → managed r ws ≡ span r.allocated (end_of r)
managed-span r ws = refl

-- a page of the region is a boot page, a managed page or a metadata page
pub by-page : {P : Type 0} (r : HeapMemoryRegion) (ws : List ℕ) (p : ℕ) → (p < r.allocated → P) → (T (managed r ws p) → P) → (end_of r ≤ p → P) → P
by-page r ws p boot own meta = by_cases (dec_lt p (end_of r))
    (λ l. by-test (managed r ws p) (λ t. own (rw t tt)) (λ t. boot (not-managed-boot r ws p l (λ m. rw t at m))))
    (λ l. meta (omega arith))

-- how many there are: those between the boot pages and the metadata pages
span-count : (a e n : ℕ) → n ≤ e → count (span a e) n ≡ n - a
unfolding count
span-count a e zero l = omega arith
span-count a e (suc n) l = by_cases (dec_le a n)
    (λ x. rw (span-in a e n x l) (omega (arith, span-count a e n (omega arith))))
    (λ x. rw (span-out a e n (λ y _. x y)) (omega (arith, span-count a e n (omega arith))))

pub managed-count : (r : HeapMemoryRegion) (ws : List ℕ) → count (managed r ws) (end_of r) ≡ end_of r - r.allocated
managed-count r ws = span-count r.allocated (end_of r) (end_of r) (le_refl (end_of r))
