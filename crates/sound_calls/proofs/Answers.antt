-- What is told of an answer fixes it: an answer is read back from the number and the values that it tells.
use Rattle.common.specs.Kit.{ℕ, ◌≡◌, refl, sym, ap, ◌∙◌, cond, List, [], ◌∷◌, eqb, get_or}
use Rattle.std.specs.Prelude.{Result, Ok, Err, unwrap_or}
use Rattle.words.specs.declared.place.VirtAddr.{VirtAddr}
use Rattle.region.specs.declared.HeapMemoryRegion.{HeapMemoryRegion}
use Rattle.sound_calls.specs.Answer.{refusal, done, grant, count, layout, Effect, effect_of}
use Rattle.sound_calls.specs.declared.Answer.{Answer}
use Rattle.sound_calls.specs.declared.AllocError.{AllocError}
use Rattle.sound_calls.specs.declared.AllocError.TheVariants.{BadCount, BadStart, TooManyBoot, Damaged, InvalidPageOrder, OutOfMemory, InvalidHeapAddress, BootPage, InvalidPageType, InvalidFilePage, RefFull, InvalidItem}
use Rattle.sound_calls.specs.declared.SizeAlign.{SizeAlign}

-- the sorts of answer, and what each tells
pub data Sort : Type 0 where
  dones grants counts layouts : Sort

-- what an answer of a sort carries that is no refusal
abbrev pub Value : Sort → Type 0
Value dones = Unit {0}
Value grants = VirtAddr
Value counts = ℕ
Value layouts = SizeAlign

abbrev pub Enum : Sort → Type 0
Enum s = Result (Value s) AllocError

abbrev pub tell : (s : Sort) → Enum s → Answer
tell dones = done
tell grants = grant
tell counts = count
tell layouts = layout

-- an answer is made of its values, of which it has at most two
abbrev made : (s : Sort) → ℕ → ℕ → Value s
made dones v w = tt
made grants v w = record { 0 = v }
made counts v w = v
made layouts v w = record { size = v; align = w }

-- the refusals by their numbers, from 1 on, with the value v where they carry one
refusals : ℕ → List AllocError
refusals v =
    let a : VirtAddr = record { 0 = v } in
    BadCount ∷ BadCount ∷ BadStart ∷ TooManyBoot ∷ Damaged ∷ InvalidPageOrder v ∷ OutOfMemory ∷ InvalidHeapAddress a ∷ BootPage a
    ∷ InvalidPageType a ∷ InvalidFilePage a ∷ RefFull a ∷ InvalidItem v ∷ []

-- the answer that tells t
read : (s : Sort) → Answer → Enum s
read s t =
    let v = unwrap_or t.value 0 in
    cond (eqb t.number 0) (Ok (made s v (unwrap_or t.second 0))) (Err (get_or (refusals v) t.number BadCount))

read-refusal : (s : Sort) (e : AllocError) → read s (refusal e) ≡ Err e
unfolding read refusals
read-refusal s BadCount = refl
read-refusal s BadStart = refl
read-refusal s TooManyBoot = refl
read-refusal s Damaged = refl
read-refusal s (InvalidPageOrder o) = refl
read-refusal s OutOfMemory = refl
read-refusal s (InvalidHeapAddress a) = refl
read-refusal s (BootPage a) = refl
read-refusal s (InvalidPageType a) = refl
read-refusal s (InvalidFilePage a) = refl
read-refusal s (RefFull a) = refl
read-refusal s (InvalidItem i) = refl

read_told : (s : Sort) (x : Enum s) → read s (tell s x) ≡ x
unfolding read
read_told dones (Ok _) = refl
read_told dones (Err e) = read-refusal dones e
read_told grants (Ok a) = refl
read_told grants (Err e) = read-refusal grants e
read_told counts (Ok n) = refl
read_told counts (Err e) = read-refusal counts e
read_told layouts (Ok l) = refl
read_told layouts (Err e) = read-refusal layouts e

-- ONE ANSWER
pub told-one : (s : Sort) (x y : Enum s) → tell s x ≡ tell s y → x ≡ y
told-one s x y e = sym (read_told s x) ∙ ap (read s) e ∙ read_told s y

-- and so what a result tells and leaves fixes it
pub result-one : (s : Sort) {x y : Enum s} {r q : HeapMemoryRegion} {ws vs : List ℕ} → effect_of (tell s x) r ws ≡ effect_of (tell s y) q vs
    → (x ≡ y) × (r ≡ q) × (ws ≡ vs)
result-one s {x} {y} e = (
  told-one s x y (ap (λ (z : Effect). z.answer) e),
  ap (λ (z : Effect). z.region) e,
  ap (λ (z : Effect). z.words) e,
)
