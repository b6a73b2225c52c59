-- The customer's cases on region R, of the promises, by computation: what each call tells, and what lists and counts it leaves. These are results.
use Rattle.common.specs.Kit.{ℕ, ◌+◌, ◌-◌, ◌*◌, ◌^◌, ◌≡◌, refl, List, [], ◌∷◌, map, get_or, set, replicate}
use Rattle.common.specs.Numbers.{update, remove, count}
use Rattle.words.specs.Place.{page_at}
use Rattle.words.specs.Word.{row, decode_of, mem_of}
use Rattle.buddy.specs.Runs.{cell, first, buddy}
use Rattle.buddy.specs.Steps.{paint, push, take, halve, split, merge, label, with_run, add}
use Rattle.buddy.specs.Rules.{lowest, split_head, refill, grant_head, grant_from, allocate, free_at, free_block, free_page, grant_as, file_page, slab_page, recount, put_to, empty, grow, grow_many, set_up_from, set_up, span}
use Rattle.region.specs.Layout.{max_pages}
use Rattle.refine.specs.Image.{next_after, entry, shown, table as values, region_of, words_of, tag_said, walk, heap_of}
use Rattle.audit.specs.Check.{all, all_say, block_at, tiles, is_free, chain, lower_half, keeps, sound_b}
use Rattle.sound_calls.specs.Answer.{ok, no, Effect}
use Rattle.sound_calls.specs.declared.Answer.{Answer}
use Rattle.sound_calls.specs.Promise.{grants, slab_grants, at_page, does_at, does, looked_up, looks_up}
use Rattle.buddy.specs.Request.{Request, for_block, for_file, for_slab, on, to_free, to_get, to_put}
use Rattle.heap.specs.Promise.{set_up_answer, set_up_promise, promise, lookup_promise, audit_promise, report_promise}

-- the address of page p of region R
unfoldable pub page : ℕ → ℕ
page p = 1048576 + 4096 * p

-- region R, set up on words that all were Reserved
unfoldable pub R : Effect
R = set_up_promise (record { 0 = page 0 }) 64 3 (replicate 64 15)

-- a call on what another left
unfoldable pub then : Effect → Request → Effect
then x c = promise x.region x.words c

-- calls one after the other, each with what it tells
abbrev Played : Type 0
Played = List (Request × Answer)

-- what they tell, whatever stands beside them, and what they leave
play : Effect → Played → Played × Effect
play x [] = ([], x)
play x (c ∷ cs) =
    let y = then x c.0 in
    let rest = play y cs in
    ((c.0, y.answer) ∷ rest.0, rest.1)

-- calls on R; then the pages on the six lists, the report's two arrays, and what lookups tell by address
record Case : Type 0 where
  calls : Played
  lists : List (List ℕ)
  blocks : List ℕ
  frees : List ℕ
  looks : List (ℕ × Answer)

-- what the promises make of a case
found : Case → Case
found c =
    let played = play R c.calls in
    let end = played.1 in
    let list = (heap_of end.region end.words).list in
    let report = report_promise end.region end.words in
    record {
      calls = played.0;
      lists = list 0 ∷ list 1 ∷ list 2 ∷ list 3 ∷ list 4 ∷ list 5 ∷ [];
      blocks = report.total;
      frees = report.free;
      looks = map (λ x. (x.0, lookup_promise end.region end.words x.0)) c.looks;
    }

-- calls that leave R as set-up left it
back : Played → Case
back calls = record {
  calls = calls;
  lists = (62 ∷ 3 ∷ []) ∷ (60 ∷ []) ∷ (56 ∷ 4 ∷ []) ∷ (48 ∷ 8 ∷ []) ∷ (32 ∷ 16 ∷ []) ∷ [] ∷ [];
  blocks = 2 ∷ 1 ∷ 2 ∷ 2 ∷ 2 ∷ 0 ∷ [];
  frees = 2 ∷ 1 ∷ 2 ∷ 2 ∷ 2 ∷ 0 ∷ [];
  looks = [];
}

table : List Case
table =
    back []
    -- order 5 is refused 6, order 6 refused 5; no address on R, or not at a page's start; pages 2 (boot), 63 (metadata), 16 (free)
    ∷ back ((for_block 5, no 6 []) ∷ (for_block 6, no 5 (6 ∷ [])) ∷ (on to_free (page 64), no 7 (page 64 ∷ [])) ∷ (on to_get 5, no 7 (5 ∷ []))
    ∷ (on to_put (page 60 + 1), no 7 ((page 60 + 1) ∷ [])) ∷ (on to_free (page 2), no 8 (page 2 ∷ [])) ∷ (on to_free (page 63), no 9 (page 63 ∷ []))
    ∷ (on to_free (page 16), no 9 (page 16 ∷ [])) ∷ (on to_get (page 2), no 10 (page 2 ∷ [])) ∷ (on to_put (page 63), no 10 (page 63 ∷ [])) ∷ [])
    -- order 1 twice: pages 60, then 56
    ∷ record {
      calls = (for_block 1, ok (page 60 ∷ [])) ∷ (for_block 1, ok (page 56 ∷ [])) ∷ [];
      lists = (62 ∷ 3 ∷ []) ∷ (58 ∷ []) ∷ (4 ∷ []) ∷ (48 ∷ 8 ∷ []) ∷ (32 ∷ 16 ∷ []) ∷ [] ∷ [];
      blocks = 2 ∷ 3 ∷ 1 ∷ 2 ∷ 2 ∷ 0 ∷ [];
      frees = 2 ∷ 1 ∷ 1 ∷ 2 ∷ 2 ∷ 0 ∷ [];
      looks = (page 60, ok (8192 ∷ 4096 ∷ [])) ∷ (page 61, no 9 (page 61 ∷ [])) ∷ (page 58, no 9 (page 58 ∷ [])) ∷ [];
    }
    -- and page 56 is freed
    ∷ record {
      calls = (for_block 1, ok (page 60 ∷ [])) ∷ (for_block 1, ok (page 56 ∷ [])) ∷ (on to_free (page 56), ok []) ∷ [];
      lists = (62 ∷ 3 ∷ []) ∷ [] ∷ (56 ∷ 4 ∷ []) ∷ (48 ∷ 8 ∷ []) ∷ (32 ∷ 16 ∷ []) ∷ [] ∷ [];
      blocks = 2 ∷ 1 ∷ 2 ∷ 2 ∷ 2 ∷ 0 ∷ [];
      frees = 2 ∷ 0 ∷ 2 ∷ 2 ∷ 2 ∷ 0 ∷ [];
      looks = [];
    }
    -- a file page is got, and put until it is none; a free takes it whatever its count
    ∷ back ((for_file, ok (page 62 ∷ [])) ∷ (on to_get (page 62), ok (2 ∷ [])) ∷ (on to_put (page 62), ok (1 ∷ [])) ∷ (on to_put (page 62), ok (0 ∷ []))
    ∷ (on to_put (page 62), no 10 (page 62 ∷ [])) ∷ [])
    ∷ back ((for_file, ok (page 62 ∷ [])) ∷ (on to_get (page 62), ok (2 ∷ [])) ∷ (on to_free (page 62), ok []) ∷ (on to_get (page 62), no 10 (page 62 ∷ [])) ∷ [])
    -- item sizes 1 to 65,535; a slab page, a file page, and lookups of these, of a boot page, of a metadata page and of no page
    ∷ back ((for_slab 0, no 12 (0 ∷ [])) ∷ (for_slab 65536, no 12 (65536 ∷ [])) ∷ (for_slab 65535, ok (page 62 ∷ [])) ∷ (on to_free (page 62), ok []) ∷ [])
    ∷ record {
      calls = (for_slab 64, ok (page 62 ∷ [])) ∷ (for_file, ok (page 3 ∷ [])) ∷ (on to_get (page 62), no 10 (page 62 ∷ [])) ∷ [];
      lists = [] ∷ (60 ∷ []) ∷ (56 ∷ 4 ∷ []) ∷ (48 ∷ 8 ∷ []) ∷ (32 ∷ 16 ∷ []) ∷ [] ∷ [];
      blocks = 2 ∷ 1 ∷ 2 ∷ 2 ∷ 2 ∷ 0 ∷ [];
      frees = 0 ∷ 1 ∷ 2 ∷ 2 ∷ 2 ∷ 0 ∷ [];
      looks = (page 62, ok (64 ∷ 64 ∷ [])) ∷ (page 62 + 4095, ok (64 ∷ 64 ∷ [])) ∷ (page 3, no 9 (page 3 ∷ [])) ∷ (page 2, ok (4096 ∷ 4096 ∷ []))
          ∷ (page 63, no 9 (page 63 ∷ [])) ∷ (page 64, no 7 (page 64 ∷ [])) ∷ [];
    }
    ∷ []

cases : map found table ≡ table
unfolding page R then play found back table update remove page_at row decode_of mem_of cell first buddy paint push take halve split merge label with_run add lowest split_head refill grant_head grant_from allocate free_at free_block free_page grant_as file_page slab_page recount put_to empty grow grow_many set_up_from set_up span max_pages count next_after entry shown values region_of words_of tag_said walk heap_of all all_say block_at tiles is_free chain lower_half keeps sound_b grants slab_grants at_page does_at does looked_up looks_up set_up_answer set_up_promise promise lookup_promise audit_promise report_promise
cases = refl

-- set-up's checks: start, pages, boot pages and lent words
record Start : Type 0 where
  start : ℕ
  pages : ℕ
  boot : ℕ
  words : ℕ
  told : Answer

asked : ℕ → ℕ → ℕ → ℕ → Answer → Start
asked s n a w t = record { start = s; pages = n; boot = a; words = w; told = t }

starts : List Start
starts =
    -- R; one page; as many boot pages as there can be; the most pages, up to the last page of the address space
    asked (page 0) 64 3 64 (ok [])
    ∷ asked (page 0) 1 0 1 (ok [])
    ∷ asked (page 0) 64 63 64 (ok [])
    ∷ asked (2 ^ 64 - 4096 * 4097) 4096 0 4096 (ok [])
    -- no page, too many, another number of words; what else is wrong plays no part
    ∷ asked 1 0 0 0 (no 1 [])
    ∷ asked (page 0) 4097 0 4097 (no 1 [])
    ∷ asked 1 64 64 65 (no 1 [])
    -- no multiple of 4,096; the last page of the address space
    ∷ asked 1 64 64 64 (no 2 [])
    ∷ asked (2 ^ 64 - 4096 * 4096) 4096 0 4096 (no 2 [])
    ∷ asked (page 0) 64 64 64 (no 3 [])
    ∷ []

start-cases : map (λ x. asked x.start x.pages x.boot x.words (set_up_answer x.start x.pages x.boot x.words)) starts ≡ starts
unfolding page asked starts max_pages set_up_answer
start-cases = refl

-- R with one word overwritten: every call refuses with 4
damaged : map (λ c. (promise R.region (set R.words 60 15) c).answer)
    (for_block 6 ∷ for_file ∷ for_slab 0 ∷ on to_free 5 ∷ on to_get 5 ∷ on to_put 5 ∷ []) ≡ replicate 6 (no 4 [])
unfolding page R update remove page_at row decode_of mem_of cell first buddy paint push take halve split merge label with_run add lowest split_head refill grant_head grant_from allocate free_at free_block free_page grant_as file_page slab_page recount put_to empty grow grow_many set_up_from set_up span max_pages count next_after entry shown values region_of words_of tag_said walk heap_of all all_say block_at tiles is_free chain lower_half keeps sound_b grants slab_grants at_page does_at does looked_up looks_up set_up_answer set_up_promise promise lookup_promise audit_promise report_promise
damaged = refl

-- what refutes useless heaps: R, order 1 granted once and twice and its page freed, a file page granted and put
unfoldable pub one : Effect
one = then R (for_block 1)

unfoldable pub filed : Effect
filed = then R for_file

pub record OnR : Type 0 where
  pub sets : R.answer.number ≡ 0
  pub first-grant : one.answer ≡ ok (page 60 ∷ [])
  pub second-grant : (then one (for_block 1)).answer ≡ ok (page 56 ∷ [])
  pub out : get_or one.words 60 0 ≡ 0x11
  pub freed : get_or (then one (on to_free (page 60))).words 60 0 ≡ 0xFFFFFFFFFFFFF010
  pub file-out : get_or filed.words 62 0 ≡ 0x14
  pub put_back : get_or (then filed (on to_put (page 62))).words 62 0 ≡ 0x3000
  pub counts : get_or (report_promise R.region R.words).free 1 0 ≡ 1
  pub counts-after : get_or (report_promise one.region one.words).free 1 0 ≡ 0
  pub sound : audit_promise R.region R.words ≡ ok []

pub on-R : OnR
unfolding page R then one filed update remove page_at row decode_of mem_of cell first buddy paint push take halve split merge label with_run add lowest split_head refill grant_head grant_from allocate free_at free_block free_page grant_as file_page slab_page recount put_to empty grow grow_many set_up_from set_up span max_pages count next_after entry shown values region_of words_of tag_said walk heap_of all all_say block_at tiles is_free chain lower_half keeps sound_b grants slab_grants at_page does_at does looked_up looks_up set_up_answer set_up_promise promise lookup_promise audit_promise report_promise
on-R = record {
  sets = refl;
  first-grant = refl;
  second-grant = refl;
  out = refl;
  freed = refl;
  file-out = refl;
  put_back = refl;
  counts = refl;
  counts-after = refl;
  sound = refl;
}
