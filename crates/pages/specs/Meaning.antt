-- What a word means for the blocks: it heads a block of a kind and order, it is a later page of a block of an order, or neither. This is the one
-- table of the page types that the rules use: head order, free order, what may be freed, kind and layout are read off it (W15).
use Rattle.std.specs.Prelude.{ℕ, Bool, true, cond, leb, Option, Some, None}
use Rattle.words.specs.declared.word.PageInfo.{PageInfo}
use Rattle.words.specs.declared.word.PageInfo.TheVariants.{Free, Allocated, Slab, Compound, File, Reserved}
use Rattle.buddy.specs.Heap.{Kind, free, used, slab, file, is_free, good_item}

pub data Meaning : Type 0 where
  head : Kind → ℕ → Meaning
  tail : ℕ → Meaning
  none : Meaning

abbrev pub info_means : PageInfo → Meaning
info_means (Free i) = head free i.order
info_means (Allocated i) = head used i.order
info_means (Slab i) = head (slab i.item_size) 0
info_means (Compound i) = tail i.order
info_means (File i) = head (file i.ref_count) 0
info_means (Reserved i) = none

abbrev pub means : Option PageInfo → Meaning
means (Some i) = info_means i
means None = none

-- what f makes of a head, and d for any other word
abbrev pub if_head : {A : Type 0} → Meaning → (Kind → ℕ → A) → A → A
if_head (head k o) f d = f k o
if_head (tail o) f d = d
if_head none f d = d

-- no order
abbrev pub no_order : ℕ
no_order = 6

-- kinds that may stand in a head's word: "a File with count 1 or more or a SlabPage with item 1 or more" (S9)
abbrev pub good_kind : Kind → Bool
good_kind free = true
good_kind used = true
good_kind (slab i) = good_item i
good_kind (file n) = leb 1 n

-- the order of the block that a page heads, no_order if it heads none
abbrev pub head_order : Option PageInfo → ℕ
head_order d = if_head (means d) (λ k o. cond (good_kind k) o no_order) no_order

-- the order of the free block that a page heads, no_order if it heads none
abbrev pub free_order : Option PageInfo → ℕ
free_order d = if_head (means d) (λ k o. cond (is_free k) o no_order) no_order

-- the order that a page's word tells, and the kind that a head's word tells
abbrev pub order_meant : Meaning → ℕ
order_meant (head k o) = o
order_meant (tail o) = o
order_meant none = 0

abbrev pub order_said : Option PageInfo → ℕ
order_said d = order_meant (means d)

abbrev pub kind_said : Option PageInfo → Kind
kind_said d = if_head (means d) (λ k o. k) used

-- what f makes of the count of a file page, and d for any other word
abbrev pub if_file_kind : {A : Type 0} → Kind → (ℕ → A) → A → A
if_file_kind free f d = d
if_file_kind used f d = d
if_file_kind (slab i) f d = d
if_file_kind (file n) f d = f n

abbrev pub if_file : {A : Type 0} → Option PageInfo → (ℕ → A) → A → A
if_file w f d = if_head (means w) (λ k o. if_file_kind k f d) d
