-- A heap with its place fixes the record and every word that show it, if the arrays are of six and the words of 64 bits: one meaning has one
-- word, and a list is fixed by its values. This is a result.
use Rattle.common.specs.Kit.{ℕ, ◌^◌, ◌<◌, ◌≡◌, sym, ◌∙◌, subst, Bool, true, List, T, length, get_or, ext_get_or, arith, Some}
use Rattle.common.proofs.Tests.{by-test}
use Rattle.words.specs.Word.{decode_of, in_table, word_of, encode_of, mem_of}
use Rattle.words.specs.declared.word.PageInfo.{PageInfo}
use Rattle.words.proofs.Fields.{word_fits}
use Rattle.words.proofs.Laws.{decode-word, mem_word, one_word, encode-no}
use Rattle.buddy.specs.Heap.{Heap}
use Rattle.pages.specs.Said.{said}
use Rattle.region.specs.State.{st}
use Rattle.region.specs.declared.HeapMemoryRegion.{HeapMemoryRegion}
use Rattle.refine.specs.Image.{Shows, Typed}
use Rattle.refine.proofs.Managed.{managed-place, by-page}

-- what a word of 64 bits says is in the table, and has no other word
module _ (w : ℕ) (i : PageInfo) (bits : w < 2 ^ 64) (says : decode_of w ≡ Some i) where
  pub said_in : in_table i ≡ true
  unfolding encode_of
  said_in = by-test (in_table i) (λ t. t) (λ t. absurd ((encode-no i).0 (rw t) w bits says))

  said-mem : w ≡ mem_of i
  said-mem = one_word w (word_of i) i bits (word_fits i said_in) says (decode-word i said_in) ∙ sym (mem_word i said_in)

module _ {r s : HeapMemoryRegion} {ws vs : List ℕ} (t : Typed r ws) (u : Typed s vs)
    (a : r.start_virt ≡ s.start_virt) (b : r.page_count ≡ s.page_count) (c : r.allocated ≡ s.allocated) where
  six : (v w : List ℕ) → length v ≡ 6 → length w ≡ 6 → ((o : ℕ) → o < 6 → get_or v o 0 ≡ get_or w o 0) → v ≡ w
  six v w m n same = ext_get_or 0 v w (m ∙ sym n) (λ o l. same o (omega arith))

  -- two records are one by their place and their numbers
  pub region-path : ((o : ℕ) → o < 6 → get_or r.nr_pages o 0 ≡ get_or s.nr_pages o 0)
      → ((o : ℕ) → o < 6 → get_or r.free_pages o 0 ≡ get_or s.free_pages o 0)
      → ((o : ℕ) → o < 6 → get_or r.next_page o 0 ≡ get_or s.next_page o 0) → r ≡ s
  region-path totals frees heads = λ i. record {
    start_virt = a i;
    page_count = b i;
    allocated = c i;
    nr_pages = six r.nr_pages s.nr_pages t.nr u.nr totals i;
    free_pages = six r.free_pages s.free_pages t.frees u.frees frees i;
    next_page = six r.next_page s.next_page t.heads u.heads heads i;
  }

-- ONE IMAGE
pub one-image : (r s : HeapMemoryRegion) (ws vs : List ℕ) (h : Heap) → Typed r ws → Typed s vs → Shows r ws h → Shows s vs h
    → r.start_virt ≡ s.start_virt → r.page_count ≡ s.page_count → r.allocated ≡ s.allocated → st r ws ≡ st s vs
one-image r s ws vs h t u k j a b c = λ i. st (region i) (words i)
  where
    region : r ≡ s
    region = region-path t u a b c
        (λ o l. k.totals o (omega arith) ∙ sym (j.totals o (omega arith)))
        (λ o l. k.frees o (omega arith) ∙ sym (j.frees o (omega arith)))
        (λ o l. k.heads o (omega arith) ∙ sym (j.heads o (omega arith)))

    same : (p : ℕ) (i : PageInfo) → p < length ws → said ws p ≡ Some i → said vs p ≡ Some i → get_or ws p 0 ≡ get_or vs p 0
    same p i l x y =
        said-mem (get_or ws p 0) i (t.bits p l) x ∙ sym (said-mem (get_or vs p 0) i (u.bits p (omega (arith, k.limits.long, j.limits.long))) y)

    words : ws ≡ vs
    words = ext_get_or 0 ws vs (k.limits.long ∙ b ∙ sym j.limits.long) (λ p l.
        let n = k.limits.long in
        by-page r ws p
        (λ x. same p _ l (k.boot.each p (omega arith) x) (j.boot.each p (omega arith) (omega arith)))
        (λ m. same p _ l (k.words p m) (j.words p (subst (λ (M : ℕ → Bool). T (M p)) (managed-place r s ws vs b c) m)))
        (λ x. same p _ l (k.metadata.each p x (omega arith)) (j.metadata.each p (omega arith) (omega arith))))
