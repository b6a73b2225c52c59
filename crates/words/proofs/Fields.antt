-- Fields that are in the table: the next field of a page names that page, and their word fits 64 bits.
use Rattle.common.specs.Kit.{ℕ, ◌^◌, ◌≤◌, ◌<◌, ◌≡◌, refl, sym, true, eqb, arith, ne_eqb, eqb-true, ltb-true}
use Rattle.common.proofs.Tests.{by-test, and-true}
use Rattle.words.specs.Word.{max_order, no_page, no_next, next_page_of, next_field, has_field, in_table, word_of}
use Rattle.words.specs.declared.word.PageInfo.{PageInfo}
use Rattle.words.specs.declared.word.PageInfo.TheVariants.{Free, Allocated, Slab, Compound, File, Reserved}

pub field_back : (p : ℕ) → has_field p ≡ true → (next_field p ≤ no_next) × (next_page_of (next_field p) ≡ p)
field_back p h =
    by-test (eqb p no_page)
    (λ e. simp e (omega arith, sym (eqb-true _ _ e)))
    (λ e.
    let s : p < no_next = ltb-true _ _ (simp e at h) in
    let n : (p ≡ no_next → ⊥) = λ q. omega arith in
    simp (e, ne_eqb _ _ n) (omega arith, refl))

pub word_fits : (i : PageInfo) → in_table i ≡ true → word_of i < 2 ^ 64
word_fits (Free f) h = let b = and-true _ _ h in omega (arith, ltb-true f.order max_order b.0, (field_back f.next_page b.1).0)
word_fits (Allocated a) h = omega (arith, ltb-true a.order max_order h)
word_fits (Slab s) h = omega (arith, ltb-true s.item_size (2 ^ 16) h)
word_fits (Compound c) h = omega (arith, ltb-true c.order max_order h)
word_fits (File f) h = omega (arith, ltb-true f.ref_count (2 ^ 60) h)
word_fits (Reserved r) h = omega arith
