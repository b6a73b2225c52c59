-- The count of a file page on its word: rules C61 and C62, as the code makes them. The page stands at address a.
use Rattle.std.specs.Prelude.{ℕ, ◌+◌, ◌-◌, ◌≤◌, ◌<◌, ◌≡◌, cond, List, [], ◌∷◌, leb, length, set, Option, Some, Result, Ok, Err}
use Rattle.words.specs.declared.place.VirtAddr.{VirtAddr}
use Rattle.words.specs.declared.word.FileInfo.{FileInfo}
use Rattle.words.specs.declared.word.PageInfo.{PageInfo}
use Rattle.words.specs.Word.{mem_of}
use Rattle.pages.specs.Info.{file_info}
use Rattle.pages.specs.Said.{said}
use Rattle.pages.specs.Meaning.{if_file}
use Rattle.region.specs.State.{State}
use Rattle.region.specs.Steps.{write, FreeOk, free_from}
use Rattle.sound_calls.specs.Answer.{ok, no}
use Rattle.sound_calls.specs.Promise.{max_count}
use Rattle.sound_calls.specs.declared.Answer.{Answer}
use Rattle.sound_calls.specs.declared.AllocError.{AllocError}
use Rattle.sound_calls.specs.declared.AllocError.TheVariants.{InvalidFilePage}

-- file_at: what a word says of a file page; refusal 10 for any other
abbrev pub file_at : VirtAddr → Option PageInfo → Result FileInfo AllocError
file_at a d = if_file d (λ n. Ok (record { ref_count = n })) (Err (InvalidFilePage a))

-- get_at: one more, unless the count is full
unfoldable pub got_count : ℕ → ℕ → List ℕ → Answer
got_count a p ws =
    if_file (said ws p)
    (λ n. cond (leb max_count n) (no 11 (a ∷ [])) (ok ((n + 1) ∷ [])))
    (no 10 (a ∷ []))

unfoldable pub got_words : ℕ → List ℕ → List ℕ
got_words p ws =
    if_file (said ws p) (λ n. cond (leb max_count n) ws (set ws p (mem_of (file_info (n + 1))))) ws

-- put_at: one less; the last one frees the page. (A count of 0 is not sound; it is taken for the last)
unfoldable pub put_count : ℕ → ℕ → List ℕ → Answer
put_count a p ws = if_file (said ws p) (λ n. ok ((n - 1) ∷ [])) (no 10 (a ∷ []))

unfoldable pub put_state : ℕ → State → State
put_state p s =
    if_file (said s.ws p)
    (λ n. cond (leb n 1) (free_from 5 p 0 s) (write p (file_info (n - 1)) s))
    s

pub record PutFileOk (p : ℕ) (s : State) : Type 0 where
  pub page : p < length s.ws
  pub last : (n : ℕ) → said s.ws p ≡ Some (file_info n) → n ≤ 1 → FreeOk 5 p 0 s
