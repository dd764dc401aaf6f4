-- The names of characters and fonts (groff_char(7)).
use Prim.Native.Char.{code}
use Rattle.std.specs.Prelude.{ℕ, ◌-◌, List, [], ◌∷◌, length, take, drop, Bool, false, ◌==◌, ◌&&◌, ◌||◌}
use Rattle.std.specs.Prelude.{nat_le, nat_lt, if◌then◌else◌, Option, None, Some, codes, slice_get}
use Rattle.std.specs.Prelude.{slice_index}
use Rattle.preconv_characters.specs.Numbers.{number_from}
use Rattle.std.specs.Str.{bytes_eq}
use Rattle.preconv_characters.specs.Likeness.{before_nul}
use Rattle.preconv_characters.specs.declared.pairs.TheConstants.{PAIRS, NAMES}

-- a name of these two bytes
abbrev pub is_pair : ℕ → ℕ → List ℕ → Bool
is_pair a b [] = false
is_pair a b (x ∷ []) = false
is_pair a b (x ∷ y ∷ []) = (x == a) && (y == b)
is_pair a b (x ∷ y ∷ z ∷ rest) = false

-- what a table has after a name of two bytes
abbrev pub looked_up : {T : Type 0} → List (ℕ × ℕ × T) → ℕ → ℕ → Option T
looked_up [] a b = None
looked_up (entry ∷ entries) a b =
    if (entry.0 == a) && (entry.1 == b) then Some entry.2 else looked_up entries a b

abbrev pub below_codes : Option ℕ → Option ℕ
below_codes None = None
below_codes (Some c) = if nat_lt c 1114112 then Some c else None

-- the character with this number
abbrev pub code_of : List ℕ → Option ℕ
code_of digits = below_codes (number_from 10 0 digits)

-- the character of two bytes
unfoldable pub pair_code : ℕ → ℕ → Option ℕ
pair_code a b = looked_up PAIRS a b

-- what a table has after a longer name
abbrev pub named_in : List (List ℕ × ℕ) → List ℕ → Option ℕ
named_in [] name = None
named_in (entry ∷ entries) name =
    if bytes_eq (before_nul entry.0) name then Some entry.1 else named_in entries name

unfoldable pub long_code : List ℕ → Option ℕ
long_code name = named_in NAMES name

-- the character of a name without marks: of two bytes, `uXXXX`, `charN`, or longer
abbrev pub unmarked_code : List ℕ → Option ℕ
unmarked_code name =
    if length name == 2 then pair_code (slice_index name 0) (slice_index name 1) else
    if nat_lt 4 (length name) && (slice_index name 0 == code "u")
    then below_codes (number_from 16 0 (drop 1 name)) else
    if nat_lt 4 (length name) && (slice_index name 0 == code "c") && (slice_index name 1 == code "h")
    && (slice_index name 2 == code "a") && (slice_index name 3 == code "r")
    then code_of (drop 4 name) else long_code name

abbrev pub before_blank : List ℕ → List ℕ
before_blank [] = []
before_blank (b ∷ bs) = if b == code " " then [] else b ∷ before_blank bs

-- the letter before marks: a byte, or that of a name
abbrev pub letter_code : List ℕ → Option ℕ
letter_code (b ∷ []) = Some b
letter_code name = unmarked_code name

-- the character of a name, without the marks that are named after it (`u0065_0301`, `e aa`)
abbrev pub glyph_code : List ℕ → Option ℕ
glyph_code name =
    if nat_lt 2 (length name) && nat_lt (length (before_blank name)) (length name)
    then letter_code (before_blank name) else unmarked_code name

-- its last mark is a stroke through the letter, U+0338
abbrev pub is_struck : List ℕ → Bool
is_struck name = nat_le 5 (length name) && bytes_eq (drop (length name - 5) name) (codes "_0338")

-- the language has it: `hy`, `em`, `bu`, `aq`, `dq`, `rs`
abbrev pub is_native : List ℕ → Bool
is_native name =
    is_pair (code "h") (code "y") name || is_pair (code "e") (code "m") name
    || is_pair (code "b") (code "u") name
    || is_pair (code "a") (code "q") name || is_pair (code "d") (code "q") name
    || is_pair (code "r") (code "s") name

-- ---- characters over one another

-- of which the last is shown (the groff manual, Drawing Commands): by its name, or by itself
abbrev pub overstruck : List ℕ → Option ℕ
overstruck text =
    if nat_le 4 (length text) && bytes_eq (take 2 (drop (length text - 4) text)) (codes "\\(")
    then glyph_code (drop (length text - 2) text) else slice_get text (length text - 1)

-- ---- translations

-- the quotes that `.tr \(is'`, `.tr \(if` and a backquote, and `.tr \(pd"` make of these signs (the groff
-- manual, Character Translations)
abbrev pub quote_of : List ℕ → Option (List ℕ)
quote_of name =
    if is_pair (code "i") (code "s") name then Some (codes "\\(aq") else
    if is_pair (code "i") (code "f") name then Some (codes "\\`") else
    if is_pair (code "p") (code "d") name then Some (codes "\\(dq") else None

-- ---- strings

-- the strings of man(7) that are a character: quotes, and `R`, a registered sign
abbrev pub string_code : List ℕ → Option ℕ
string_code name =
    if is_pair (code "l") (code "q") name then Some (code "“") else
    if is_pair (code "r") (code "q") name then Some (code "”") else
    if bytes_eq name (codes "R") then Some (code "®") else None

-- ---- fonts

-- a font with a name of one byte, if it is one: a terminal has no others. V is that of code in pages of
-- pandoc, which say `.ftr V B` for terminals
abbrev pub letter_of : ℕ → Option ℕ
letter_of b =
    if (b == code "R") || (b == code "1") || (b == code "5") then Some (code "R") else
    if (b == code "I") || (b == code "2") || (b == code "4") then Some (code "I") else
    if (b == code "B") || (b == code "3") || (b == code "V") then Some (code "B") else
    if b == code "P" then Some (code "P") else None

-- bold italic is italic, and typewriter fonts are those that they look like
abbrev pub pair_font : ℕ → ℕ → Option ℕ
pair_font a b =
    if (a == code "C") && (b == code "R") then Some (code "R") else
    if ((a == code "C") || (a == code "B") || (a == code "V")) && (b == code "I") then Some (code "I") else
    if ((a == code "C") || (a == code "V")) && (b == code "B") then Some (code "B") else None

abbrev pub font_of : List ℕ → Option ℕ
font_of [] = Some (code "P")
font_of (a ∷ []) = letter_of a
font_of (a ∷ b ∷ []) = pair_font a b
font_of (a ∷ b ∷ c ∷ rest) = None
