-- What the walk found decides the lines on the managed pages: by its answer, and if that is good, by the counts and by where the lists have
-- come to.
use Rattle.common.specs.Kit.{ℕ, ◌≡◌, refl, sym, ap, ◌∙◌, Bool, true, false, ◌&&◌, and-true, and_assoc, List, eqb, length, get_or, replicate, get_or-replicate, Option, Some, None}
use Rattle.std.specs.Prelude.{is_some}
use Rattle.words.specs.Word.{no_page}
use Rattle.buddy.specs.Rules.{span}
use Rattle.region.specs.Layout.{end_of}
use Rattle.region.specs.Pages.{blocks, frees}
use Rattle.region.specs.declared.HeapMemoryRegion.{HeapMemoryRegion}
use Rattle.audit.specs.Check.{tiles, chain, chains, lonely, counts, keeps, every}
use Rattle.audit.specs.Counts.{Tally}
use Rattle.audit.specs.Survey.{Surveyed, inner}
use Rattle.audit.specs.declared.survey.Findings.{Findings}
use Rattle.audit.proofs.Loops.{all_same}
use Rattle.audit.proofs.Tallies.{equal-back, tally-equal}
use lib.Pointwise.{pointwise}

module _ (r : HeapMemoryRegion) (ws : List ℕ) {e : ℕ} (is : e ≡ end_of r) where
  abbrev M : ℕ → Bool
  M = span r.allocated e

  -- after the lines that the walk's answer decides
  abbrev others : Bool
  others = counts r.nr_pages (blocks ws M e) && (counts r.free_pages (frees ws M e) && (chains ws M (frees ws M e) r.next_page && true))

  answer-first : {found : Option Findings} → Surveyed ws M e r.next_page found → every (keeps r ws) inner ≡ is_some found && others
  unfolding keeps
  answer-first s = rw (← is, s.answer) (sym (and_assoc (tiles ws M e e 0) (lonely ws M e) others))

  pub found-bad : Surveyed ws M e r.next_page None → every (keeps r ws) inner ≡ false
  found-bad s = answer-first s

  module _ {f : Findings} (s : Surveyed ws M e r.next_page (Some f)) where
    -- each list has its free blocks, and no more, exactly if it has come to none
    lists-ended : chains ws M (frees ws M e) r.next_page ≡ counts f.at (λ o. no_page)
    lists-ended =
        let t = s.stocked in
        all_same (λ o. chain ws M o (frees ws M e o) (get_or r.next_page o 0)) (λ o. eqb (get_or f.at o 0) no_page) 0 6
        (λ o h. ap (λ n. chain ws M o n (get_or r.next_page o 0)) (sym (t.tallies.frees.each o h)) ∙ t.chained o h)

    none : Tally (λ o. no_page) (replicate 6 no_page)
    none = record { long = refl; each = λ o h. get_or-replicate 6 o no_page 0 h }

    -- the tests of the code
    pub found-good :
        length r.nr_pages ≡ 6 → length r.free_pages ≡ 6 → length f.at ≡ 6 →
        every (keeps r ws) inner
        ≡ pointwise eqb f.blocks r.nr_pages && (pointwise eqb f.frees r.free_pages && pointwise eqb f.at (replicate 6 no_page))
    found-good n k a =
        let t = s.stocked.tallies in
        answer-first s
        ∙ rw (
          tally-equal r.nr_pages n t.blocks,
          tally-equal r.free_pages k t.frees,
          equal-back f.at (replicate 6 no_page),
          tally-equal f.at a none,
          lists-ended,
        )
        (simp and-true)

pub ruleset found = (found-bad, found-good)
