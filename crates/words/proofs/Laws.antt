-- Words pack and unpack without loss, and one meaning has one word. The laws at the end are results.
use Rattle.common.specs.Kit.{ℕ, ◌+◌, ◌*◌, ◌^◌, ◌<◌, ◌≡◌, refl, ap, subst, ◌↔◌, true, eqb, arith, ne_eqb, lt-ltb, eqb-true, eqb-false, ltb-true, Option, Some, None}
use Rattle.common.proofs.Tests.{by-test, and-true}
use Rattle.words.specs.Word.{max_order, no_page, no_next, next_field, type_in, rest_in, order_in, above_order, item_in, above_item, row, decode_of, in_table, word_of, encode_of, mem_of}
use Rattle.words.specs.declared.word.PageStorageType.{PageStorageType}
use Rattle.words.specs.declared.word.PageInfo.{PageInfo}
use Rattle.words.specs.declared.word.PageInfo.TheVariants.{Free, Allocated, Slab, Compound, File, Reserved}
use Rattle.words.proofs.Fields.{field_back, word_fits}
use Rattle.words.proofs.Rows.{by_row}

-- the word of what a word says is that word; its fields are in the table
abbrev Again : ℕ → Option PageInfo → Type 0
Again w (Some i) = (in_table i ≡ true) × (word_of i ≡ w)
Again w None = Unit {0}

again : (w : ℕ) → w < 2 ^ 64 → Again w (decode_of w)
again w b =
    by_row w (Again w)
    (λ t h. by-test (eqb (above_order w) no_next)
    (λ e. let n : above_order w ≡ no_next = eqb-true _ _ e in simp (e, lt-ltb _ _ h) (refl, omega arith))
    (λ e.
    let n : (above_order w ≡ no_next → ⊥) = eqb-false _ _ e in
    let s : above_order w < no_next = omega arith in
    let p : (above_order w ≡ no_page → ⊥) = λ q. omega arith in
    simp (e, lt-ltb _ _ h, ne_eqb _ _ p, lt-ltb _ _ s) (refl, omega arith)))
    (λ t h z. (lt-ltb _ _ h, omega arith))
    (λ t z. (lt-ltb (item_in w) (2 ^ 16) (omega arith), omega arith))
    (λ t h z. (lt-ltb _ _ h, omega arith))
    (λ t. (lt-ltb (rest_in w) (2 ^ 60) (omega arith), omega arith))
    (λ t h. (refl, omega arith))
    tt

-- the parts of a word that was put together of a field p, an order o and a type t
module _ (p o t : ℕ) (h : o < 2 ^ 8) (k : t < 2 ^ 4) where
  order-part : order_in (p * 2 ^ 12 + o * 2 ^ 4 + t) ≡ o
  order-part = let q : rest_in (p * 2 ^ 12 + o * 2 ^ 4 + t) ≡ p * 2 ^ 8 + o = omega arith in rw q (omega arith)

  above-part : above_order (p * 2 ^ 12 + o * 2 ^ 4 + t) ≡ p
  above-part = let q : rest_in (p * 2 ^ 12 + o * 2 ^ 4 + t) ≡ p * 2 ^ 8 + o = omega arith in rw q (omega arith)

-- fields that are in the table are what their word says
pub decode-word : (i : PageInfo) → in_table i ≡ true → decode_of (word_of i) ≡ Some i
unfolding decode_of row
decode-word (Free f) h =
    let b = and-true _ _ h in
    let o : f.order < max_order = ltb-true _ _ b.0 in
    let k = field_back f.next_page b.1 in
    let e : word_of (Free f) ≡ next_field f.next_page * 2 ^ 12 + f.order * 2 ^ 4 + 0 = omega arith in
    let t : type_in (word_of (Free f)) ≡ 0 = omega arith in
    let r : order_in (word_of (Free f)) ≡ f.order = rw e (order-part _ _ 0 (omega arith) (omega arith)) in
    let n : above_order (word_of (Free f)) ≡ next_field f.next_page = rw e (above-part _ f.order 0 (omega arith) (omega arith)) in
    simp (t, r, n, b.0, k.1)
decode-word (Allocated a) h =
    let o : a.order < max_order = ltb-true _ _ h in
    let e : word_of (Allocated a) ≡ 0 * 2 ^ 12 + a.order * 2 ^ 4 + 1 = omega arith in
    let t : type_in (word_of (Allocated a)) ≡ 1 = omega arith in
    let r : order_in (word_of (Allocated a)) ≡ a.order = rw e (order-part 0 _ 1 (omega arith) (omega arith)) in
    let n : above_order (word_of (Allocated a)) ≡ 0 = rw e (above-part 0 a.order 1 (omega arith) (omega arith)) in
    simp (t, r, n, h)
decode-word (Slab s) h =
    let o : s.item_size < 2 ^ 16 = ltb-true _ _ h in
    let t : type_in (word_of (Slab s)) ≡ 2 = omega arith in
    let q : rest_in (word_of (Slab s)) ≡ s.item_size = omega arith in
    let r : item_in (word_of (Slab s)) ≡ s.item_size = rw q (omega arith) in
    let n : above_item (word_of (Slab s)) ≡ 0 = rw q (omega arith) in
    simp (t, r, n)
decode-word (Compound c) h =
    let o : c.order < max_order = ltb-true _ _ h in
    let e : word_of (Compound c) ≡ 0 * 2 ^ 12 + c.order * 2 ^ 4 + 3 = omega arith in
    let t : type_in (word_of (Compound c)) ≡ 3 = omega arith in
    let r : order_in (word_of (Compound c)) ≡ c.order = rw e (order-part 0 _ 3 (omega arith) (omega arith)) in
    let n : above_order (word_of (Compound c)) ≡ 0 = rw e (above-part 0 c.order 3 (omega arith) (omega arith)) in
    simp (t, r, n, h)
decode-word (File f) h =
    let o : f.ref_count < 2 ^ 60 = ltb-true _ _ h in
    let t : type_in (word_of (File f)) ≡ 4 = omega arith in
    let r : rest_in (word_of (File f)) ≡ f.ref_count = omega arith in
    simp (t, r)
decode-word (Reserved r) h = refl

-- a word is its number
word-inj : {v w : ℕ} → ◌≡◌ {A = Option PageStorageType} (Some (record { 0 = v })) (Some (record { 0 = w })) → v ≡ w
word-inj {v} {w} e =
    let q : ◌≡◌ {A = PageStorageType} (record { 0 = v }) (record { 0 = w }) = cc in ap (λ (x : PageStorageType). x.0) q

-- for callers whose fields are in the table
pub mem_word : (i : PageInfo) → in_table i ≡ true → mem_of i ≡ word_of i
unfolding mem_of
mem_word i h = rw h

-- ENCODE THEN DECODE is the identity on all fields that have a word, and the word fits 64 bits
pub encode-decode : (i : PageInfo) (w : ℕ) → encode_of i ≡ Some (record { 0 = w }) → (w < 2 ^ 64) × (decode_of w ≡ Some i)
unfolding encode_of
encode-decode i w e =
    by-test (in_table i)
    (λ h. subst (λ (n : ℕ). (n < 2 ^ 64) × (decode_of n ≡ Some i)) (word-inj (simp h at e)) (word_fits i h, decode-word i h))
    (λ h. let z : ◌≡◌ {A = ℕ} 0 1 = cc (simp h at e) in absurd (eqb-false 0 1 refl z))

-- DECODE THEN ENCODE gives back the word, for every 64 bits that decode
pub decode-encode : (w : ℕ) (i : PageInfo) → w < 2 ^ 64 → decode_of w ≡ Some i → encode_of i ≡ Some (record { 0 = w })
unfolding encode_of
decode-encode w i b e = let a = subst (Again w) e (again w b) in rw (a.0, a.1)

-- ONE MEANING HAS ONE WORD
pub one_word : (v w : ℕ) (i : PageInfo) → v < 2 ^ 64 → w < 2 ^ 64 → decode_of v ≡ Some i → decode_of w ≡ Some i → v ≡ w
one_word v w i bv bw dv dw = word-inj (cc (decode-encode v i bv dv, decode-encode w i bw dw))

-- ENCODE SAYS NO exactly when nothing decodes to the fields
pub encode-no : (i : PageInfo) → (encode_of i ≡ None) ↔ ((w : ℕ) → w < 2 ^ 64 → decode_of w ≡ Some i → ⊥)
unfolding encode_of
encode-no i = (refuse, only)
  where
    differ : {w : PageStorageType} → encode_of i ≡ None → encode_of i ≡ Some w → ⊥
    differ n e = let z : ◌≡◌ {A = ℕ} 0 1 = cc in eqb-false 0 1 refl z

    refuse : encode_of i ≡ None → (w : ℕ) → w < 2 ^ 64 → decode_of w ≡ Some i → ⊥
    refuse n w b d = differ n (decode-encode w i b d)

    only : ((w : ℕ) → w < 2 ^ 64 → decode_of w ≡ Some i → ⊥) → encode_of i ≡ None
    only none = by-test (in_table i) (λ h. absurd (none (word_of i) (word_fits i h) (decode-word i h))) (λ h. rw h)
