-- Kinds and tags: a tag is its order and its kind, and a kind is free or it is not.
use Rattle.common.specs.Kit.{◌≢◌, ℕ, ◌≡◌, refl, ap, T, arith}
use Rattle.buddy.specs.Heap.{Kind, free, used, slab, file, Tag, tag, is_free}

pub order-of : {v w : Tag} → v ≡ w → v.order ≡ w.order
order-of e = ap (λ (x : Tag). x.order) e

pub kind-of : {v w : Tag} → v ≡ w → v.kind ≡ w.kind
kind-of e = ap (λ (x : Tag). x.kind) e

pub tag-path : {o : ℕ} {k : Kind} (v : Tag) → v.order ≡ o → v.kind ≡ k → v ≡ tag o k
tag-path v e f = λ i. record { order = e i; kind = f i }

pub used≢free : used ≢ free
used≢free e = let z : ◌≡◌ {A = ℕ} 0 1 = cc in omega arith

pub is_free_lem : (k : Kind) → T (is_free k) → k ≡ free
is_free_lem free _ = refl
is_free_lem used t = absurd t
is_free_lem (slab i) t = absurd t
is_free_lem (file n) t = absurd t
