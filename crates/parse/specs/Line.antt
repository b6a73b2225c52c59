-- What a line says (README.md, "The shell"): its words are parted by white space; the first is the name of a request, the others are numbers, hex
-- digits or a field's name, by the request.
use Rattle.std.specs.Prelude.{ℕ, ◌+◌, ◌-◌, ◌*◌, ◌^◌, Bool, true, cond, ◌&&◌, ◌||◌, List, [], ◌∷◌, eqb, leb, ltb, length, Option, Some, None, option_map, option_and_then, bytes_eq, codes}
use Prim.Native.String.{String}
use Rattle.words.specs.declared.place.VirtAddr.{VirtAddr}
use Rattle.parse.specs.declared.request.Field.{Field}
use Rattle.parse.specs.declared.request.Request.{Request}

-- space, tab, vertical tab, form feed, carriage return; a newline is in no line
abbrev pub blank : ℕ → Bool
blank b = eqb b 32 || leb 9 b && leb b 13

-- the words of a line: its longest runs of bytes that are not blank
abbrev pub before : ℕ → List (List ℕ) → List (List ℕ)
before b [] = (b ∷ []) ∷ []
before b (w ∷ ws) = (b ∷ w) ∷ ws

abbrev pub begins : List ℕ → Bool
begins [] = true
begins (c ∷ cs) = blank c

unfoldable pub words_of : List ℕ → List (List ℕ)
words_of [] = []
words_of (b ∷ bs) = cond (blank b) (words_of bs) (cond (begins bs) ((b ∷ []) ∷ words_of bs) (before b (words_of bs)))

-- a number below a bound
abbrev pub below : ℕ → Option ℕ → Option ℕ
below bound None = None
below bound (Some n) = cond (ltb n bound) (Some n) None

-- what a digit to a base counts
abbrev pub digit_of : ℕ → ℕ → Option ℕ
digit_of base b =
    below base (cond (leb 48 b && leb b 57) (Some (b - 48)) (cond (leb 97 b && leb b 102) (Some (b - 97 + 10)) None))

-- digits as a number to a base, the first one highest, after n
abbrev pub value_from : ℕ → ℕ → List ℕ → Option ℕ
value_from base n [] = Some n
value_from base n (b ∷ bs) = option_and_then (λ d. value_from base (n * base + d) bs) (digit_of base b)

-- a number: 1 to `longest` digits, at most 2^64 - 1
unfoldable pub number_of : ℕ → ℕ → List ℕ → Option ℕ
number_of base longest w = cond (leb 1 (length w) && leb (length w) longest) (below (2 ^ 64) (value_from base 0 w)) None

abbrev pub number : List ℕ → Option ℕ
number w = number_of 10 20 w

abbrev pub hex : List ℕ → Option ℕ
hex w = number_of 16 16 w

-- what stands beside a text in a table
abbrev pub found : {A : Type 0} → List (String × A) → List ℕ → Option A
found [] w = None
found ((name, x) ∷ more) w = cond (bytes_eq w (codes name)) (Some x) (found more w)

-- the record's fields
abbrev pub fields : List (String × Field)
fields =
    ("nr", Field.Nr) ∷ ("free", Field.Free) ∷ ("head", Field.Head) ∷ ("start", Field.Start) ∷ ("pages", Field.Pages) ∷ ("boot", Field.Boot) ∷ []

unfoldable pub field_of : List ℕ → Option Field
field_of w = found fields w

-- the word of a line that has no other
abbrev pub single : List (List ℕ) → Option (List ℕ)
single [] = None
single (w ∷ []) = Some w
single (w ∷ v ∷ ws) = None

-- words that are just so many numbers
abbrev pub one : List (List ℕ) → Option ℕ
one ws = option_and_then number (single ws)

abbrev pub two : List (List ℕ) → Option (ℕ × ℕ)
two [] = None
two (w ∷ ws) = option_and_then (λ x. option_map (λ y. (x, y)) (one ws)) (number w)

abbrev pub three : List (List ℕ) → Option (ℕ × ℕ × ℕ)
three [] = None
three (w ∷ ws) = option_and_then (λ x. option_map (λ p. (x, p.0, p.1)) (two ws)) (number w)

-- the request of the words after a name: of none, of a number, of an address, of three numbers
abbrev pub Asks : Type 0
Asks = List (List ℕ) → Option Request

abbrev pub ends : Request → Asks
ends q [] = Some q
ends q (w ∷ ws) = None

abbrev pub number_to : (ℕ → Request) → Asks
number_to f ws = option_map f (one ws)

abbrev pub address_to : (VirtAddr → Request) → Asks
address_to f ws = option_map (λ a. f (record { 0 = a })) (one ws)

abbrev pub numbers_to : (ℕ → ℕ → ℕ → Request) → Asks
numbers_to f ws = option_map (λ p. f p.0 p.1 p.2) (three ws)

-- `setup START PAGES BOOT`, `decode HEX`, `poke I HEX` and `field NAME I VALUE`
abbrev pub setup_of : Asks
setup_of ws = numbers_to (λ start. Request.Setup (record { 0 = start })) ws

abbrev pub decodes : Asks
decodes ws = option_map Request.Decode (option_and_then hex (single ws))

abbrev pub pokes : Asks
pokes [] = None
pokes (w ∷ ws) = option_and_then (λ i. option_map (Request.Poke i) (option_and_then hex (single ws))) (number w)

abbrev pub writes : Asks
writes [] = None
writes (w ∷ ws) = option_and_then (λ f. option_map (λ p. Request.Field f p.0 p.1) (two ws)) (field_of w)

-- the requests by their names
abbrev pub requests : List (String × Asks)
requests =
    ("words", number_to Request.Words)
    ∷ ("setup", setup_of)
    ∷ ("alloc", number_to Request.Alloc)
    ∷ ("file", ends Request.File)
    ∷ ("slab", number_to Request.Slab)
    ∷ ("free", address_to Request.Free)
    ∷ ("get", address_to Request.Get)
    ∷ ("put", address_to Request.Put)
    ∷ ("lookup", address_to Request.Lookup)
    ∷ ("report", ends Request.Report)
    ∷ ("audit", ends Request.Audit)
    ∷ ("print", ends Request.Print)
    ∷ ("lists", ends Request.Lists)
    ∷ ("state", ends Request.State)
    ∷ ("word", number_to Request.Word)
    ∷ ("poke", pokes)
    ∷ ("field", writes)
    ∷ ("encode", numbers_to Request.Encode)
    ∷ ("decode", decodes)
    ∷ ("order", number_to Request.Order)
    ∷ ("help", ends Request.Help)
    ∷ []

-- the request of a line's words, the first of them the name
unfoldable pub asked : List (List ℕ) → Option Request
asked [] = None
asked (name ∷ ws) = option_and_then (λ asks. asks ws) (found requests name)

-- a line has at most 200 bytes
unfoldable pub parsed : List ℕ → Option Request
parsed line = cond (leb (length line) 200) (asked (words_of line)) None
