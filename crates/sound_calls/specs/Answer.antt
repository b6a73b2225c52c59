-- Answers as numbers: the number of a refusal, 0 for none, and the values that it carries. Promises are stated in these terms. What each refusal
-- tells stands here, and in `From<AllocError> for Answer` of the code.
use Rattle.std.specs.Prelude.{ℕ, List, [], ◌∷◌, slice_get, Result, Ok, Err}
use Rattle.words.specs.declared.place.VirtAddr.{VirtAddr}
use Rattle.region.specs.declared.HeapMemoryRegion.{HeapMemoryRegion}
use Rattle.sound_calls.specs.declared.Answer.{Answer}
use Rattle.sound_calls.specs.declared.AllocError.{AllocError}
use Rattle.sound_calls.specs.declared.AllocError.TheVariants.{BadCount, BadStart, TooManyBoot, Damaged, InvalidPageOrder, OutOfMemory, InvalidHeapAddress, BootPage, InvalidPageType, InvalidFilePage, RefFull, InvalidItem}
use Rattle.sound_calls.specs.declared.SizeAlign.{SizeAlign}

-- refusal k, and a call that succeeded, with what they carry: two values at most
abbrev pub no : ℕ → List ℕ → Answer
no k vs = record { number = k; value = slice_get vs 0; second = slice_get vs 1 }

abbrev pub ok : List ℕ → Answer
ok vs = no 0 vs

-- the refusals by their numbers, R1 to R12, each with what it carries
abbrev pub refusal : AllocError → Answer
refusal BadCount = no 1 []
refusal BadStart = no 2 []
refusal TooManyBoot = no 3 []
refusal Damaged = no 4 []
refusal (InvalidPageOrder o) = no 5 (o ∷ [])
refusal OutOfMemory = no 6 []
refusal (InvalidHeapAddress a) = no 7 (a.0 ∷ [])
refusal (BootPage a) = no 8 (a.0 ∷ [])
refusal (InvalidPageType a) = no 9 (a.0 ∷ [])
refusal (InvalidFilePage a) = no 10 (a.0 ∷ [])
refusal (RefFull a) = no 11 (a.0 ∷ [])
refusal (InvalidItem i) = no 12 (i ∷ [])

-- an answer tells the values of what it is, or its refusal
abbrev pub told : {A : Type 0} → (A → List ℕ) → Result A AllocError → Answer
told values (Ok x) = ok (values x)
told values (Err e) = refusal e

-- "A free that succeeds answers nothing more" (R53); so does a set-up, and an audit of what is sound
abbrev pub done : Result (Unit {0}) AllocError → Answer
done = told (λ _. [])

-- the address granted
abbrev pub grant : Result VirtAddr AllocError → Answer
grant = told (λ a. a.0 ∷ [])

-- the count after a get or a put
abbrev pub count : Result ℕ AllocError → Answer
count = told (λ n. n ∷ [])

-- size and alignment
abbrev pub layout : Result SizeAlign AllocError → Answer
layout = told (λ l. l.size ∷ l.align ∷ [])

-- what a call answers and leaves
pub record Effect : Type 0 where
  pub answer : Answer
  pub region : HeapMemoryRegion
  pub words : List ℕ

abbrev pub effect_of : Answer → HeapMemoryRegion → List ℕ → Effect
effect_of t r ws = record { answer = t; region = r; words = ws }
