-- The table of meanings, both ways: the word of a head tells the block's kind and order, and a word that tells an order is the word of such
-- a head.
use Rattle.common.specs.Kit.{ℕ, ◌<◌, ◌≡◌, refl, sym, ap, Bool, true, false, cond, leb, arith, le-leb, leb-true, Option, Some, None}
use Rattle.words.specs.declared.word.PageInfo.TheVariants.{Free, Allocated, Slab, Compound, File, Reserved}
use Rattle.buddy.specs.Heap.{Kind, free, used, slab, file, good_item, Fits}
use Rattle.pages.specs.Info.{free_info, allocated_info}
use Rattle.pages.specs.Said.{next_in}
use Rattle.pages.specs.Meaning.{head, means, no_order, good_kind, head_order, free_order, order_said, kind_said}
use Rattle.refine.specs.Image.{head_info}
use Rattle.words.specs.declared.word.PageInfo.{PageInfo}

fits-good : (k : Kind) (o : ℕ) → Fits k o → good_kind k ≡ true
fits-good free o f = refl
fits-good used o f = refl
fits-good (slab i) o f = f.1
fits-good (file n) o f = le-leb 1 n f.1

-- what a head means, and what is read off that
module _ (k : Kind) (o next : ℕ) (f : Fits k o) where
  head-means : means (Some (head_info k o next)) ≡ head k o
  head-means = go k f
    where
      go : (j : Kind) → Fits j o → means (Some (head_info j o next)) ≡ head j o
      go free f = refl
      go used f = refl
      go (slab i) f = ap (head (slab i)) (sym f.0)
      go (file n) f = ap (head (file n)) (sym f.0)

  pub head-kind : kind_said (Some (head_info k o next)) ≡ k
  head-kind = rw head-means

  pub head-order : order_said (Some (head_info k o next)) ≡ o
  head-order = rw head-means

  pub head-tells : head_order (Some (head_info k o next)) ≡ o
  head-tells = rw (head-means, fits-good k o f)

-- a test that gives an order has held
tested : (b : Bool) (n o : ℕ) → o < 6 → cond b n no_order ≡ o → (b ≡ true) × (n ≡ o)
tested true n o l e = (refl, e)
tested false n o l e = absurd (omega arith)

-- the word of the head of some block of order o
pub record HeadWord (o : ℕ) (d : Option PageInfo) : Type 0 where
  pub kind : Kind
  pub fits : Fits kind o
  pub is : d ≡ Some (head_info kind o (next_in d))

pub tells-head : (o : ℕ) (d : Option PageInfo) → o < 6 → head_order d ≡ o → HeadWord o d
tells-head o (Some (Free fi)) l e = record { kind = free; fits = omega arith; is = ap (λ n. Some (free_info n fi.next_page)) e }
tells-head o (Some (Allocated ai)) l e = record { kind = used; fits = omega arith; is = ap (λ n. Some (allocated_info n)) e }
tells-head o (Some (Slab si)) l e =
    let t = tested (good_item si.item_size) 0 o l e in
    record { kind = slab si.item_size; fits = (sym t.1, t.0); is = refl }
tells-head o (Some (File fi)) l e =
    let t = tested (leb 1 fi.ref_count) 0 o l e in
    record { kind = file fi.ref_count; fits = (sym t.1, leb-true _ _ t.0); is = refl }
tells-head o (Some (Compound ci)) l e = absurd (omega arith)
tells-head o (Some (Reserved ri)) l e = absurd (omega arith)
tells-head o None l e = absurd (omega arith)

pub head-free : (k : Kind) (o next j : ℕ) → j < 6 → free_order (Some (head_info k o next)) ≡ j → (k ≡ free) × (o ≡ j)
head-free free o next j l e = (refl, e)
head-free used o next j l e = absurd (omega arith)
head-free (slab i) o next j l e = absurd (omega arith)
head-free (file n) o next j l e = absurd (omega arith)

-- only a free head shows the page after it
pub head-same : (k : Kind) (o x y : ℕ) → (k ≡ free → x ≡ y) → head_info k o x ≡ head_info k o y
head-same free o x y e = ap (free_info o) (e refl)
head-same used o x y e = refl
head-same (slab i) o x y e = refl
head-same (file n) o x y e = refl
