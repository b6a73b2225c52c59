-- The page before a page on a list: a walk along the next fields finds it, and taking the page out changes what follows it alone.
use Rattle.common.specs.Kit.{ℕ, ◌<◌, ◌≡◌, refl, sym, ◌∙◌, ◌≢◌, ⊎_elim, by_cases, List, [], ◌∷◌, Memᴰ, mem-head, mem-tail, mem-cases, mem-not_nil, length, ℕ_discrete, eq-eqb, ne_eqb, Some}
use Rattle.common.specs.Numbers.{remove, Once}
use Rattle.common.proofs.Lists.{remove-same, remove-other}
use Rattle.words.specs.Word.{no_page}
use Rattle.pages.specs.Said.{said, next_in}
use Rattle.region.specs.State.{page_before, WalkOk}
use Rattle.refine.specs.Image.{head_or, next_after}
use Rattle.refine.proofs.Links.{after_same, after-other, Links}

-- page b stands before page p on the list
pub record Before (p : ℕ) (l : List ℕ) (b : ℕ) : Type 0 where
  pub member : Memᴰ b l
  pub apart : b ≢ p
  pub links : next_after b (remove p l) ≡ next_after p l
  pub others : (q : ℕ) → q ≢ b → q ≢ p → next_after q (remove p l) ≡ next_after q l

before_here : (p x y : ℕ) (l : List ℕ) → x ≢ p → y ≡ p → Before p (x ∷ y ∷ l) x
before_here p x y l n e = record {
  member = mem-head refl;
  apart = n;
  links = rw rest (after_same x x l refl ∙ sym (after-other p x (y ∷ l) n ∙ after_same p y l e));
  others = λ q a b.
      let n : x ≢ q = λ z. a (sym z) in
      rw rest (after-other q x l n ∙ sym (after-other q x (y ∷ l) n ∙ after-other q y l (λ z. b (sym z ∙ e))));
}
  where
    rest : remove p (x ∷ y ∷ l) ≡ x ∷ l
    rest = rw (remove-other p x (y ∷ l) n, remove-same p y l e)

before-later : (p x y : ℕ) (l : List ℕ) (b : ℕ) → x ≢ p → y ≢ p → (Memᴰ x (y ∷ l) → ⊥) → Before p (y ∷ l) b → Before p (x ∷ y ∷ l) b
before-later p x y l b n d once w = record {
  member = mem-tail w.member;
  apart = w.apart;
  links = rw rest (after-other b x (remove p (y ∷ l)) (λ z. once (rw z w.member)) ∙ w.links ∙ sym (after-other p x (y ∷ l) n));
  others = λ q a c. rw rest (by_cases (ℕ_discrete x q)
      (λ z. after_same q x (remove p (y ∷ l)) z ∙ rw (remove-other p y l d) (sym (after_same q x (y ∷ l) z)))
      (λ z. after-other q x (remove p (y ∷ l)) z ∙ w.others q a c ∙ sym (after-other q x (y ∷ l) z)));
}
  where
    rest : remove p (x ∷ y ∷ l) ≡ x ∷ remove p (y ∷ l)
    rest = remove-other p x (y ∷ l) n

-- the walk from the head of the list finds the page before p
pub record Walked (ws : List ℕ) (p : ℕ) (l : List ℕ) : Type 0 where
  pub page : ℕ
  pub found : page_before (length l) (head_or l) p ws ≡ Some page
  pub ok : WalkOk (length l) (head_or l) p ws
  pub before : Before p l page

pub walked : (ws : List ℕ) (p : ℕ) (l : List ℕ) → Links (λ x. next_in (said ws x)) l → Once l
    → ((x : ℕ) → Memᴰ x l → (x < length ws) × (x ≢ no_page)) → Memᴰ p l → head_or l ≢ p → Walked ws p l
unfolding page_before WalkOk
walked ws p [] k u low m n = absurd (mem-not_nil m)
walked ws p (x ∷ []) k u low m n = absurd (⊎_elim (λ e. n (sym e)) mem-not_nil (mem-cases m))
walked ws p (x ∷ y ∷ l) k u low m n = by_cases (ℕ_discrete y p)
    (λ e. record {
      page = x;
      found = rw (k.0, ne_eqb y no_page some, eq-eqb y p e);
      ok = ((low x (mem-head refl)).0, λ _ d. absurd (d (k.0 ∙ e)));
      before = before_here p x y l n e;
    })
    (λ e.
    let w = walked ws p (y ∷ l) k.1 u.1 (λ z i. low z (mem-tail i)) later e in
    record {
      page = w.page;
      found = rw (k.0, ne_eqb y no_page some, ne_eqb y p e) w.found;
      ok = ((low x (mem-head refl)).0, λ _ _. rw k.0 w.ok);
      before = before-later p x y l w.page n e u.0 w.before;
    })
  where
    later : Memᴰ p (y ∷ l)
    later = ⊎_elim (λ z. absurd (n (sym z))) (λ z. z) (mem-cases m)

    some : y ≢ no_page
    some = (low y (mem-tail (mem-head refl))).1
