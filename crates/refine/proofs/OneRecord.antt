-- Sound words fix the record but for the start and the boot pages: there are as many pages as words, blocks and free blocks are counted by the
-- words, and the head of a list is the one page of it that follows no other. So damage to the other numbers alone is seen. The words do not name
-- the start; and a boot page's word is that of a block out, so a record that counts one for the other is sound too (`cases` in `audit`). No audit
-- can see these two. These are results.
use Rattle.common.specs.Kit.{ℕ, ◌+◌, ◌-◌, ◌*◌, ◌%◌, ◌^◌, ◌≤◌, ◌<◌, ◌≡◌, refl, sym, ◌∙◌, subst, ◌≢◌, ⊎_elim, Bool, List, [], ◌∷◌, Memᴰ, mem-head, mem-tail, mem-cases, mem-not_nil, T, get_or, arith}
use Rattle.common.specs.Numbers.{Once}
use Rattle.words.specs.Word.{no_page}
use Rattle.words.specs.declared.place.VirtAddr.{VirtAddr}
use Rattle.pages.specs.Said.{said, next_in}
use Rattle.region.specs.Layout.{alloc_pages, managed}
use Rattle.region.specs.Pages.{FreeList, blocks, frees}
use Rattle.region.specs.Sound.{Sound}
use Rattle.region.specs.declared.HeapMemoryRegion.{HeapMemoryRegion}
use Rattle.region.proofs.Limits.{pages-small}
use Rattle.refine.specs.Image.{head_or, next_after, Typed}
use Rattle.refine.proofs.Managed.{managed-below, managed-place}
use Rattle.refine.proofs.Links.{after_tail, Links, links-after}
use Rattle.refine.proofs.FreeLists.{linked-head, linked-links, linked-free, linked-full, linked-once}
use Rattle.refine.proofs.OneImage.{region-path}

module _ (f : ℕ → ℕ) where
  -- a page behind the head follows some page of the list
  follows : (y : ℕ) (l : List ℕ) (x : ℕ) → Links f (y ∷ l) → Memᴰ x l → (z : ℕ) × Memᴰ z (y ∷ l) × (f z ≡ x)
  follows y [] x k m = absurd (mem-not_nil m)
  follows y (u ∷ l) x k m = ⊎_elim
      (λ e. (y, mem-head refl, k.0 ∙ sym e))
      (λ j. let p = follows u l x k.1 j in (p.0, mem-tail p.1, p.2))
      (mem-cases m)

  -- two lists of the same pages, linked alike, have one head
  heads-same : (l m : List ℕ) → Links f l → Links f m → Once l → ((p : ℕ) → Memᴰ p l → p ≢ no_page)
      → ((p : ℕ) → Memᴰ p l → Memᴰ p m) → ((p : ℕ) → Memᴰ p m → Memᴰ p l) → head_or l ≡ head_or m
  heads-same [] [] k j u some to from = refl
  heads-same [] (y ∷ m) k j u some to from = absurd (mem-not_nil (from y (mem-head refl)))
  heads-same (x ∷ l) [] k j u some to from = absurd (mem-not_nil (to x (mem-head refl)))
  heads-same (x ∷ l) (y ∷ m) k j u some to from =
      ⊎_elim (λ e. e) (λ i. absurd (loops i)) (mem-cases (to x (mem-head refl)))
    where
      loops : Memᴰ x m → ⊥
      loops i =
          let p = follows y m x j i in
          let at_x : next_after p.0 (x ∷ l) ≡ x = sym (links-after f (x ∷ l) k p.0 (from p.0 p.1)) ∙ p.2 in
          ⊎_elim (λ e. some x (mem-head refl) (sym at_x ∙ e)) (λ n. u.0 (rw at_x at n)) (after_tail p.0 x l)

pub one-head : {ws : List ℕ} {M : ℕ → Bool} {o x y : ℕ} → ((p : ℕ) → T (M p) → p < no_page) → FreeList ws M o x → FreeList ws M o y → x ≡ y
one-head {ws} low f g = linked-head f ∙ heads-same (λ p. next_in (said ws p)) f.list g.list (linked-links f) (linked-links g)
    (linked-once f)
    (λ p m. let b = low p (linked-free f p m).managed in omega arith)
    (λ p m. linked-full g p (linked-free f p m))
    (λ p m. linked-full f p (linked-free g p m))
    ∙ sym (linked-head g)

-- ONE RECORD
pub one-record : (r s : HeapMemoryRegion) (ws : List ℕ) → Typed r ws → Typed s ws → Sound r ws → Sound s ws
    → r.start_virt ≡ s.start_virt → r.allocated ≡ s.allocated → r ≡ s
one-record r s ws t u x y a c = region-path t u a b c
    (λ o l. x.totals o l ∙ (λ i. blocks ws (same i) (alloc_pages (b i)) o) ∙ sym (y.totals o l))
    (λ o l. x.free o l ∙ (λ i. frees ws (same i) (alloc_pages (b i)) o) ∙ sym (y.free o l))
    (λ o l. one-head low (subst (λ (M : ℕ → Bool). FreeList ws M o (get_or r.next_page o 0)) same (x.lists o l)) (y.lists o l))
  where
    b : r.page_count ≡ s.page_count
    b = sym x.limits.long ∙ y.limits.long

    same : managed r ws ≡ managed s ws
    same = managed-place r s ws ws b c

    low : (p : ℕ) → T (managed s ws p) → p < no_page
    low p m = omega (arith, managed-below s ws p m, pages-small s.page_count y.limits.most)

-- the region at another start
abbrev pub moved_to : VirtAddr → HeapMemoryRegion → HeapMemoryRegion
moved_to start r = record {
  start_virt = start;
  page_count = r.page_count;
  allocated = r.allocated;
  nr_pages = r.nr_pages;
  free_pages = r.free_pages;
  next_page = r.next_page;
}

-- at every start that a region of so many pages may have, the words are as sound as they were
pub moved-sound : (start : VirtAddr) (r : HeapMemoryRegion) (ws : List ℕ) → start.0 % 4096 ≡ 0 → start.0 + 4096 * r.page_count ≤ 2 ^ 64 - 1
    → Sound r ws → Sound (moved_to start r) ws
moved-sound start r ws aligned ends s = record {
  limits = record {
    some = s.limits.some;
    most = s.limits.most;
    long = s.limits.long;
    aligned = aligned;
    ends = ends;
    boot = s.limits.boot;
  };
  boot = s.boot;
  metadata = s.metadata;
  tiled = s.tiled;
  lists = s.lists;
  buddies = s.buddies;
  totals = s.totals;
  free = s.free;
}
