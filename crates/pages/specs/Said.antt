-- What the words say, page by page.
use Rattle.std.specs.Prelude.{ℕ, List, get_or, Option, Some, None}
use Rattle.words.specs.Word.{decode_of, no_page}
use Rattle.words.specs.declared.word.PageInfo.{PageInfo}
use Rattle.words.specs.declared.word.PageInfo.TheVariants.{Free, Allocated, Slab, Compound, File, Reserved}

-- what the word of page p says
abbrev pub said : List ℕ → ℕ → Option PageInfo
said ws p = decode_of (get_or ws p 0)

-- the page after a Free page on its list; none after any other
abbrev pub next_of : PageInfo → ℕ
next_of (Free i) = i.next_page
next_of (Allocated i) = no_page
next_of (Slab i) = no_page
next_of (Compound i) = no_page
next_of (File i) = no_page
next_of (Reserved i) = no_page

abbrev pub next_in : Option PageInfo → ℕ
next_in (Some i) = next_of i
next_in None = no_page
