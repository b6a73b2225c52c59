-- A promise fixes what its function answers and leaves: two results that meet it are equal, whatever call it is of. These are results.
use Rattle.common.specs.Kit.{ℕ, ◌≡◌, refl, sym, ap, ◌∙◌, List}
use Rattle.buddy.proofs.Refill.{never}
use Rattle.region.specs.declared.HeapMemoryRegion.{HeapMemoryRegion}
use Rattle.sound_calls.specs.Answer.{Effect, effect_of}
use Rattle.sound_calls.specs.declared.Answer.{Answer}
use Rattle.sound_calls.proofs.Answers.{Sort, Enum, tell, dones, told-one, result-one}
use Rattle.heap.specs.Promise.{Reported, reported}
use Rattle.heap.specs.declared.Report.{Report}
use Rattle.sound_calls.specs.declared.AllocError.{AllocError}
use Rattle.std.specs.Prelude.{Result, Ok, Err}

-- a call that answers with an enum of a sort, and leaves a record and words
pub one-result : (p : Effect) (s : Sort) (x y : Enum s) (r q : HeapMemoryRegion) (ws vs : List ℕ)
    → effect_of (tell s x) r ws ≡ p → effect_of (tell s y) q vs ≡ p → (x ≡ y) × (r ≡ q) × (ws ≡ vs)
one-result p s x y r q ws vs e f = result-one s (e ∙ sym f)

-- a call that only answers
pub one_answer : (t : Answer) (s : Sort) (x y : Enum s) → tell s x ≡ t → tell s y ≡ t → x ≡ y
one_answer t s x y e f = told-one s x y (e ∙ sym f)

-- a report's answer, without the report
abbrev bare : Result Report AllocError → Enum dones
bare (Ok x) = Ok tt
bare (Err e) = Err e

bare-told : (x : Result Report AllocError) → (reported x).answer ≡ tell dones (bare x)
bare-told (Ok x) = refl
bare-told (Err e) = refl

pub one-report : (t : Reported) (x y : Result Report AllocError) → reported x ≡ t → reported y ≡ t → x ≡ y
one-report t x y e f = go x y (e ∙ sym f)
  where
    -- by the answer alone: what an answer tells of its value is nothing
    told : (x y : Result Report AllocError) → reported x ≡ reported y → bare x ≡ bare y
    told x y same = told-one dones (bare x) (bare y) (sym (bare-told x) ∙ ap (λ (z : Reported). z.answer) same ∙ bare-told y)

    go : (x y : Result Report AllocError) → reported x ≡ reported y → x ≡ y
    go (Ok x) (Ok y) same = ap Ok (λ i. record { total_pages = (same i).total; free_pages = (same i).free })
    go (Err d) (Err e) same = let z : d ≡ e = cc (told (Err d) (Err e) same) in ap Err z
    go (Ok x) (Err e) same = never (cc (told (Ok x) (Err e) same))
    go (Err d) (Ok y) same = never (cc (told (Err d) (Ok y) same))
