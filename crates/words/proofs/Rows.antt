-- `decode_of` row by row: what holds of the answer in each row holds of the answer.
use Rattle.common.specs.Kit.{ℕ, ◌<◌, ◌≡◌, eqb, ltb, eqb-true, ltb-true, Option, Some, None}
use Rattle.common.proofs.Tests.{by-test}
use Rattle.words.specs.Word.{max_order, next_page_of, type_in, rest_in, order_in, above_order, item_in, above_item, row, decode_of}
use Rattle.words.specs.declared.word.PageInfo.{PageInfo}
use Rattle.words.specs.declared.word.PageInfo.TheVariants.{Free, Allocated, Slab, Compound, File, Reserved}

by-checks :
    (P : Option PageInfo → Type 0) → P None → (i : PageInfo) (order spare : ℕ) → (order < max_order → spare ≡ 0 → P (Some i)) → P (row i order spare)
unfolding row
by-checks P bad i order spare good =
    by-test (ltb order max_order)
    (λ h. rw h (by-test (eqb spare 0) (λ z. rw z (good (ltb-true _ _ h) (eqb-true _ _ z))) (λ z. rw z bad)))
    (λ h. rw h bad)

pub by_row :
    (w : ℕ) (P : Option PageInfo → Type 0) →
    (type_in w ≡ 0 → order_in w < max_order → P (Some (Free (record { next_page = next_page_of (above_order w); order = order_in w })))) →
    (type_in w ≡ 1 → order_in w < max_order → above_order w ≡ 0 → P (Some (Allocated (record { order = order_in w })))) →
    (type_in w ≡ 2 → above_item w ≡ 0 → P (Some (Slab (record { item_size = item_in w })))) →
    (type_in w ≡ 3 → order_in w < max_order → above_order w ≡ 0 → P (Some (Compound (record { order = order_in w })))) →
    (type_in w ≡ 4 → P (Some (File (record { ref_count = rest_in w })))) →
    (type_in w ≡ 15 → rest_in w ≡ 0 → P (Some (Reserved (record {})))) →
    P None →
    P (decode_of w)
unfolding decode_of
by_row w P free allocated slab compound file reserved bad =
    at 0 (checks _ (λ t h _. free t h))
    (at 1 (checks _ allocated)
    (at 2 (checks _ (λ t _ s. slab t s))
    (at 3 (checks _ compound)
    (at 4 (checks _ (λ t _ _. file t))
    (at 15 (checks _ (λ t _ s. reserved t s))
    bad)))))
  where
    checks : (i : PageInfo) {k order spare : ℕ} → (type_in w ≡ k → order < max_order → spare ≡ 0 → P (Some i)) → type_in w ≡ k → P (row i order spare)
    checks i {k} {order} {spare} good t = by-checks P bad i order spare (good t)

    at : (k : ℕ) {d e : Option PageInfo} → (type_in w ≡ k → P d) → P e → P (mathlib.Core.Bool.cond (eqb (type_in w) k) d e)
    at k f g = by-test (eqb (type_in w) k) (λ t. rw t (f (eqb-true _ _ t))) (λ t. rw t g)
