-- A word is the one of an Allocated, Compound or Reserved page exactly when it says that page, since these rows have no free bits: so pages
-- that all have one word all say one thing.
use Rattle.common.specs.Kit.{ℕ, ◌-◌, ◌≡◌, sym, ap, ◌∙◌, subst, true, List, get_or, arith, Option, Some, None}
use Rattle.words.specs.Word.{decode_of, in_table, word_of, mem_of}
use Rattle.words.specs.declared.word.PageInfo.{PageInfo}
use Rattle.words.specs.declared.word.PageInfo.TheVariants.{Free, Allocated, Slab, Compound, File, Reserved}
use Rattle.words.proofs.Rows.{by_row}
use Rattle.words.proofs.Laws.{decode-word, mem_word}
use Rattle.region.specs.Pages.{AllSay}
use Rattle.audit.specs.Decides.{Decides}
use Rattle.audit.specs.Check.{all_say}
use Rattle.audit.proofs.Decisions.{decide-as, decide_eq, decide-all}

-- the word of what a word says is that word
abbrev Back : ℕ → Option PageInfo → Type 0
Back w (Some (Free fi)) = Unit {0}
Back w (Some (Allocated ai)) = w ≡ word_of (Allocated ai)
Back w (Some (Slab si)) = Unit {0}
Back w (Some (Compound ci)) = w ≡ word_of (Compound ci)
Back w (Some (File fi)) = Unit {0}
Back w (Some (Reserved ri)) = w ≡ word_of (Reserved ri)
Back w None = Unit {0}

word_back : (w : ℕ) → Back w (decode_of w)
word_back w = by_row w (Back w) (λ t h. tt) (λ t h z. omega arith) (λ t z. tt) (λ t h z. omega arith) (λ t. tt) (λ t z. omega arith) tt

-- i is in the table, and one of the three
pub decide-say :
    (ws : List ℕ) (a e : ℕ) (i : PageInfo) → in_table i ≡ true → ((w : ℕ) → Back w (Some i) → w ≡ word_of i) →
    Decides (all_say ws a e i) (AllSay ws a e i)
unfolding all_say
decide-say ws a e i table only =
    let m = mem_word i table in
    decide-as
    (λ x. record { each = λ p h k. ap decode_of (x p h (omega arith) ∙ m) ∙ decode-word i table })
    (λ s p h k. let w = get_or ws p 0 in only w (subst (Back w) (s.each p h (omega arith)) (word_back w)) ∙ sym m)
    (decide-all a (e - a) (λ p h k. decide_eq (get_or ws p 0) (mem_of i)))
