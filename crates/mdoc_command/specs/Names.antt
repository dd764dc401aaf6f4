-- Which names begin definitions, open blocks, and end them (mdoc(7), MACRO SYNTAX).
use Rattle.std.specs.Prelude.{ℕ, List, [], ◌∷◌, Bool, true, false, not, ◌==◌, ◌&&◌, ◌||◌, nat_le}
use Rattle.std.specs.Prelude.{if◌then◌else◌, codes, Option, None, Some, slice_index}
use Rattle.std.specs.Str.{bytes_eq}
use Prim.Native.Char.{code}
use Rattle.mdoc_command.specs.declared.names.TheConstants.{UNPARSED, NEED_WORDS, TAKE_NONE}

-- names of macros begin with a capital letter, or with a percent sign
abbrev pub is_request : List ℕ → Bool
is_request [] = true
is_request (b ∷ bs) = not (nat_le (code "A") b && nat_le b (code "Z")) && not (b == code "%")

-- a request that begins a definition
abbrev pub defines : List ℕ → Bool
defines name = bytes_eq name (codes "de") || bytes_eq name (codes "am") || bytes_eq name (codes "ig")

-- a request whose lines or words are not looked at, and may name the page
abbrev pub hides : List ℕ → Bool
hides name =
    defines name || bytes_eq name (codes "if") || bytes_eq name (codes "ie") || bytes_eq name (codes "el")
    || bytes_eq name (codes "so")

abbrev pub is_in : List (List ℕ) → ℕ → ℕ → Bool
is_in [] a b = false
is_in (name ∷ names) a b =
    if (slice_index name 0 == a) && (slice_index name 1 == b) then true else is_in names a b

-- words of a macro's line may call macros, but those of some macros
abbrev pub is_parsed : List ℕ → Bool
is_parsed (a ∷ b ∷ []) = not (a == code "%") && not (is_in UNPARSED a b)
is_parsed name = true

-- `Ao` to `Xo` open enclosures, and `Ac` to `Xc` end them
abbrev pub encloses : ℕ → Bool
encloses b =
    (b == code "A") || (b == code "B") || (b == code "D") || (b == code "E") || (b == code "F") ||
    (b == code "O") || (b == code "P") || (b == code "Q") || (b == code "S") || (b == code "X")

-- `Bd` to `Bl` open blocks, and `Ed` to `El` end them
abbrev pub is_block : ℕ → Bool
is_block b = (b == code "d") || (b == code "f") || (b == code "k") || (b == code "l")

abbrev pub opens_short : ℕ → ℕ → Bool
opens_short a b =
    ((b == code "o") && encloses a) || ((a == code "B") && is_block b) || ((a == code "R") && (b == code "s"))
    || ((a == code "T") && (b == code "S"))

-- the macro opens what another one ends
abbrev pub opens : List ℕ → Bool
opens (a ∷ b ∷ []) = opens_short a b
opens name = bytes_eq name (codes "Bro")

abbrev pub short_opener : ℕ → ℕ → Option (List ℕ)
short_opener a b =
    if (b == code "c") && encloses a then Some (a ∷ code "o" ∷ []) else
    if (a == code "E") && is_block b then Some (code "B" ∷ b ∷ []) else
    if (a == code "R") && (b == code "e") then Some (codes "Rs") else
    if (a == code "T") && (b == code "E") then Some (codes "TS") else None

-- the macro that opens what this one ends
abbrev pub opener_of : List ℕ → Option (List ℕ)
opener_of (a ∷ b ∷ []) = short_opener a b
opener_of name = if bytes_eq name (codes "Brc") then Some (codes "Bro") else None

-- ---- words

-- a macro that prints nothing without words: one of these, or a part of a reference
abbrev pub needs_words : List ℕ → Bool
needs_words (a ∷ b ∷ []) = (a == code "%") || is_in NEED_WORDS a b
needs_words name = false

-- a macro that takes no words
abbrev pub takes_none : List ℕ → Bool
takes_none (a ∷ b ∷ []) = is_in TAKE_NONE a b
takes_none name = false

-- a mark, which is no word where it stands alone
abbrev pub is_mark : List ℕ → Bool
is_mark (b ∷ []) =
    (b == code ".") || (b == code ",") || (b == code ":") || (b == code ";") || (b == code ")") || (b == code "]")
    || (b == code "?") || (b == code "!") || (b == code "(") || (b == code "[") || (b == code "|")
is_mark word = false

abbrev pub is_one_of : List (List ℕ) → List ℕ → Bool
is_one_of [] word = false
is_one_of (name ∷ names) word = bytes_eq word name || is_one_of names word

abbrev pub is_list_kind : List ℕ → Bool
is_list_kind word =
    is_one_of (codes "-bullet" ∷ codes "-dash" ∷ codes "-hyphen" ∷ codes "-enum" ∷ codes "-tag" ∷ codes "-hang"
    ∷ codes "-inset" ∷ codes "-ohang" ∷ codes "-diag" ∷ codes "-item" ∷ codes "-column" ∷ []) word

-- options of a list or a display: one that has a word of its own, and one that has none and is no kind
abbrev pub has_value : List ℕ → List ℕ → Bool
has_value name word =
    bytes_eq word (codes "-offset") || (bytes_eq name (codes "Bl") && bytes_eq word (codes "-width"))
    || (bytes_eq name (codes "Bd") && bytes_eq word (codes "-file"))

abbrev pub is_flag : List ℕ → List ℕ → Bool
is_flag name word = bytes_eq word (codes "-compact") || (bytes_eq name (codes "Bl") && bytes_eq word (codes "-nested"))

abbrev pub is_display_kind : List ℕ → Bool
is_display_kind word =
    is_one_of (codes "-literal" ∷ codes "-unfilled" ∷ codes "-centered" ∷ codes "-filled" ∷ codes "-ragged" ∷ [])
    word
