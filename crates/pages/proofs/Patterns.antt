-- Two patterns on a word, `Decoded` and then `PageInfo`: what the second binds, and what its `else` knows, as facts on what the word says.
use Rattle.common.specs.Kit.{ℕ, ◌≡◌, refl, sym, ap, ◌∙◌, Option, Some, None}
use Rattle.words.specs.declared.word.FreeInfo.{FreeInfo}
use Rattle.words.specs.declared.word.PageInfo.{PageInfo}
use Rattle.words.specs.declared.word.PageInfo.TheVariants.{Free, Allocated, Slab, Compound, File, Reserved}
use Rattle.pages.specs.Info.{file_info}
use Rattle.pages.specs.Meaning.{no_order, free_order, if_file}

-- what a word says, from the answer r of reading it, through both patterns
pub through : {r d : Option PageInfo} {i j : PageInfo} → r ≡ d → r ≡ Some i → i ≡ j → d ≡ Some j
through read info page = sym read ∙ info ∙ ap Some page

-- the `else` of a pattern on Free: the page heads no free block
pub not_free : (i : PageInfo) → ((fi : FreeInfo) → i ≡ Free fi → ⊥) → free_order (Some i) ≡ no_order
not_free (Free fi) h = absurd (h fi refl)
not_free (Allocated ai) h = refl
not_free (Slab si) h = refl
not_free (Compound ci) h = refl
not_free (File fi) h = refl
not_free (Reserved ri) h = refl

-- a word says File, or it does not, and then the default is taken
pub by-file : {P : Type 0} (d : Option PageInfo) → ((n : ℕ) → d ≡ Some (file_info n) → P)
    → (((A : Type 0) (f : ℕ → A) (x : A) → if_file d f x ≡ x) → P) → P
by-file (Some (Free fi)) is not = not (λ A f x. refl)
by-file (Some (Allocated ai)) is not = not (λ A f x. refl)
by-file (Some (Slab si)) is not = not (λ A f x. refl)
by-file (Some (Compound ci)) is not = not (λ A f x. refl)
by-file (Some (File fi)) is not = is fi.ref_count refl
by-file (Some (Reserved ri)) is not = not (λ A f x. refl)
by-file None is not = not (λ A f x. refl)
