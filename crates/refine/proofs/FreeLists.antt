-- The linked lists of free blocks: each is the walk along its next fields, and one that holds each free block once is as long as these are
-- many.
use Rattle.common.specs.Kit.{ℕ, ◌<◌, ◌≡◌, refl, sym, ⊎_elim, Bool, List, [], ◌∷◌, Memᴰ, mem-head, mem-tail, mem-cases, mem-not_nil, T, length, arith, eq-eqb, eqb-true}
use Rattle.common.specs.Numbers.{Once}
use Rattle.common.proofs.Tests.{T_true, and-true}
use Rattle.common.proofs.Counts.{count-list}
use Rattle.pages.specs.Said.{said, next_in}
use Rattle.region.specs.Pages.{FreeBlock, Linked, FreeList, frees}
use Rattle.region.proofs.Occurs.{occurs-mem, occurs-once}
use Rattle.refine.specs.Image.{head_or}
use Rattle.refine.proofs.Links.{Links}

module _ (ws : List ℕ) (M : ℕ → Bool) (o : ℕ) where
  head_of : (head : ℕ) (l : List ℕ) → Linked ws M o head l → head ≡ head_or l
  head_of head [] k = k
  head_of head (x ∷ l) k = k.0

  links-of : (head : ℕ) (l : List ℕ) → Linked ws M o head l → Links (λ p. next_in (said ws p)) l
  links-of head [] k = tt
  links-of head (x ∷ l) k = (head_of _ l k.2, links-of (next_in (said ws x)) l k.2)

  free_of : (head : ℕ) (l : List ℕ) → Linked ws M o head l → (p : ℕ) → Memᴰ p l → FreeBlock ws M o p
  free_of head [] k p m = absurd (mem-not_nil m)
  free_of head (x ∷ l) k p m = ⊎_elim (λ d. rw d k.1) (free_of (next_in (said ws x)) l k.2 p) (mem-cases m)

  pub links-linked : (l : List ℕ) → Links (λ p. next_in (said ws p)) l → ((p : ℕ) → Memᴰ p l → FreeBlock ws M o p)
      → Linked ws M o (head_or l) l
  links-linked [] k f = refl
  links-linked (x ∷ l) k f = (refl, f x (mem-head refl), rw k.0 (links-linked l k.1 (λ p m. f p (mem-tail m))))

module _ {ws : List ℕ} {M : ℕ → Bool} {o head : ℕ} (f : FreeList ws M o head) where
  pub linked-head : head ≡ head_or f.list
  linked-head = head_of ws M o head f.list f.linked

  pub linked-links : Links (λ p. next_in (said ws p)) f.list
  linked-links = links-of ws M o head f.list f.linked

  pub linked-free : (p : ℕ) → Memᴰ p f.list → FreeBlock ws M o p
  linked-free = free_of ws M o head f.list f.linked

  pub linked-full : (p : ℕ) → FreeBlock ws M o p → Memᴰ p f.list
  linked-full p b = occurs-mem p f.list (omega (arith, f.once p b))

  pub linked-once : Once f.list
  linked-once = occurs-once f.list (λ p m. f.once p (linked-free p m))

  -- the free blocks among the pages below n, if all pages are
  pub linked_long : (n : ℕ) → ((p : ℕ) → T (M p) → p < n) → length f.list ≡ frees ws M n o
  linked_long n low = sym (count-list f.list _ n linked-once (λ p m. low p (linked-free p m).managed) (λ p. (
    λ m. let b = linked-free p m in rw (T_true (M p) b.managed, eq-eqb _ o b.is),
    λ t. let b = and-true (M p) _ t in linked-full p (record { managed = rw b.0 tt; is = eqb-true _ o b.1 }),
  )))
