-- File pages: what the code makes of sound input is what the promises say. The word of a file page is written with another count, and the last
-- put frees the page.
use Rattle.common.specs.Kit.{ℕ, zero, suc, ◌+◌, ◌-◌, ◌^◌, ◌≤◌, ◌<◌, ◌≡◌, refl, ap, ◌∙◌, List, [], ◌∷◌, leb, length, arith, lt-ltb, le-ltb, leb-true, leb-false}
use Rattle.common.proofs.Tests.{by-test}
use Rattle.buddy.specs.Runs.{cell}
use Rattle.buddy.specs.Heap.{Heap, file}
use Rattle.buddy.specs.Request.{on, to_get, to_put}
use Rattle.buddy.specs.Rules.{recount, put_to}
use Rattle.buddy.proofs.Paint.{BlockOut}
use Rattle.buddy.proofs.Pages.{file≢free, FilePage, file-out, out-block}
use Rattle.pages.specs.Info.{file_info}
use Rattle.pages.specs.Said.{said}
use Rattle.pages.proofs.Patterns.{by-file}
use Rattle.region.specs.State.{st}
use Rattle.region.specs.Steps.{write}
use Rattle.refine.specs.Image.{heap_of}
use Rattle.region.specs.declared.HeapMemoryRegion.{HeapMemoryRegion}
use Rattle.region.specs.Layout.{managed}
use Rattle.refine.proofs.Shown.{head-zero}
use Rattle.refine.proofs.Step.{Rule}
use Rattle.refine.proofs.Label.{label-image, label-fit}
use Rattle.sound_calls.specs.Files.{got_count, got_words, put_count, put_state, PutFileOk}
use Rattle.sound_calls.specs.Answer.{ok, effect_of}
use Rattle.sound_calls.specs.Promise.{max_count, on_page, does_at, does}
use Rattle.sound_calls.specs.Code.{leaves}
use Rattle.sound_calls.proofs.SoundInput.{SoundInput, fit, is-image}
use Rattle.sound_calls.proofs.Places.{on_same}
use Rattle.sound_calls.proofs.Heads.{said-file, file-said}
use Rattle.sound_calls.proofs.FreeLaws.{out-frees}

module _ {r : HeapMemoryRegion} {ws : List ℕ} (good : SoundInput r ws) where
  abbrev h : Heap
  h = heap_of r ws

  module _ {p n : ℕ} (f : FilePage (managed r ws) h.at p n) where
    out : BlockOut (managed r ws) h.at 0 (cell 0 p)
    out = out-block (fit good).fits.core.tiled (file-out f)

    page-in : p < length ws
    page-in = omega (arith, good.sound.limits.long, (fit good).fits.within p f.managed)

    pub count_fits : n < 2 ^ 60
    count_fits = rw f.is at ((fit good).fits.holds p f.managed)

    -- the word of a file page is written with the count m
    pub recounts : (m : ℕ) → 1 ≤ m → m < 2 ^ 60 → Rule (managed r ws) r (p < length ws) (write p (file_info m) (st r ws)) (recount h p m)
    unfolding recount
    recounts m some small = record {
      ok = page-in;
      leaves = ap (write p (file_info m)) (is-image good) ∙ (rw (head-zero p) at (label-image (fit good).fits out (file m) (file≢free m) 0));
      fit = label-fit (fit good) out (file m) (refl, some) (file≢free m) small;
    }

    put_some : (m : ℕ) → 1 ≤ m → put_to (managed r ws) h p m ≡ recount h p m
    unfolding put_to
    put_some zero l = absurd (omega arith)
    put_some (suc m) l = refl

    pub file-puts : Rule (managed r ws) r (p < length ws) (put_state p (st r ws)) (put_to (managed r ws) h p (n - 1))
    unfolding put_state put_to
    file-puts = rw (file-said good.sound p n f) (by-test (leb n 1)
        (λ t.
        let last : n - 1 ≡ 0 = omega (arith, leb-true n 1 t) in
        let k = out-frees good (file-out f) in
        rw (t, last) (record { ok = page-in; leaves = k.leaves; fit = k.fit }))
        (λ t.
        let more : 1 ≤ n - 1 = omega (arith, leb-false n 1 t) in
        rw (t, put_some (n - 1) more) (recounts (n - 1) more (omega (arith, count_fits)))))

  pub put-ok : (p : ℕ) → p < r.page_count → PutFileOk p (st r ws)
  put-ok p l = record {
    page = omega (arith, good.sound.limits.long);
    last = λ n e _. (out-frees good (file-out (said-file good.sound p n l e))).ok;
  }

  pub get-code : (a : ℕ) → on_page r ws a (λ p. effect_of (got_count a p ws) r (got_words p ws)) ≡ does r ws (on to_get a)
  unfolding does does_at got_count got_words
  get-code a = on_same r ws a _ _ (λ p l. by-file (said ws p)
      (λ n e. rw e (by-test (leb max_count n)
      (λ t. rw (t, le-ltb n max_count (leb-true max_count n t)))
      (λ t.
      let more : n < max_count = leb-false max_count n t in
      rw (t, lt-ltb n max_count more)
      (ap (leaves (ok ((n + 1) ∷ []))) (recounts (said-file good.sound p n l e) (n + 1) (omega arith) (omega arith)).leaves))))
      (λ other. simp other))

  pub put-code : (a : ℕ) → on_page r ws a (λ p. leaves (put_count a p ws) (put_state p (st r ws))) ≡ does r ws (on to_put a)
  unfolding does does_at put_count put_state
  put-code a = on_same r ws a _ _ (λ p l. by-file (said ws p)
      (λ n e. rw e (ap (leaves (ok ((n - 1) ∷ []))) (rw e at (file-puts (said-file good.sound p n l e)).leaves)))
      (λ other. simp other))
