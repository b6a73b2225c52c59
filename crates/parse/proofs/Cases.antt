-- Lines by computation: each name of README.md's table, and of a field, is what `parsed` makes of a line that begins with it, or has it as a field; blanks and
-- numbers at their ends; and lines that say nothing. These are results.
use Rattle.common.specs.Kit.{◌≡◌, refl, List, [], ◌∷◌, map}
use Rattle.std.specs.Prelude.{Option, Some, None, codes}
use Prim.Native.String.{String}
use Rattle.parse.specs.Line.{words_of, number_of, field_of, asked, parsed}
use Rattle.parse.specs.declared.request.Field.{Field}
use Rattle.parse.specs.declared.request.Request.{Request}

-- a line for each name
named : List (String × Option Request)
named =
    ("words 4096", Some (Request.Words 4096))
    ∷ ("setup 65536 512 2", Some (Request.Setup (record { 0 = 65536 }) 512 2))
    ∷ ("alloc 1", Some (Request.Alloc 1))
    ∷ ("file", Some Request.File)
    ∷ ("slab 64", Some (Request.Slab 64))
    ∷ ("free 4096", Some (Request.Free (record { 0 = 4096 })))
    ∷ ("get 4096", Some (Request.Get (record { 0 = 4096 })))
    ∷ ("put 4096", Some (Request.Put (record { 0 = 4096 })))
    ∷ ("lookup 4096", Some (Request.Lookup (record { 0 = 4096 })))
    ∷ ("report", Some Request.Report)
    ∷ ("audit", Some Request.Audit)
    ∷ ("print", Some Request.Print)
    ∷ ("lists", Some Request.Lists)
    ∷ ("state", Some Request.State)
    ∷ ("word 3", Some (Request.Word 3))
    ∷ ("poke 3 ff", Some (Request.Poke 3 255))
    ∷ ("field nr 5 7", Some (Request.Field Field.Nr 5 7))
    ∷ ("field free 5 7", Some (Request.Field Field.Free 5 7))
    ∷ ("field head 5 7", Some (Request.Field Field.Head 5 7))
    ∷ ("field start 0 4096", Some (Request.Field Field.Start 0 4096))
    ∷ ("field pages 0 64", Some (Request.Field Field.Pages 0 64))
    ∷ ("field boot 0 3", Some (Request.Field Field.Boot 0 3))
    ∷ ("encode 2 64 0", Some (Request.Encode 2 64 0))
    ∷ ("decode ff", Some (Request.Decode 255))
    ∷ ("order 4097", Some (Request.Order 4097))
    ∷ ("help", Some Request.Help)
    ∷ []

-- blanks before, between and after; the largest number, and one more; a digit that is none; a fifth word; nothing
odd : List (String × Option Request)
odd =
    ("\tpoke  3 0ff \r", Some (Request.Poke 3 255))
    ∷ ("order 18446744073709551615", Some (Request.Order 18446744073709551615))
    ∷ ("order 18446744073709551616", None)
    ∷ ("poke 3 f_f", None)
    ∷ ("setup 4096 1 0 0", None)
    ∷ ("", None)
    ∷ []

said : List (String × Option Request) → List (String × Option Request)
said = map (λ x. (x.0, parsed (codes x.0)))

names : said named ≡ named
unfolding said named words_of number_of field_of asked parsed
names = refl

cases : said odd ≡ odd
unfolding said odd words_of number_of field_of asked parsed
cases = refl
