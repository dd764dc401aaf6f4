-- What a text is made of (CSTR 54, special character names and escape sequences): characters, blanks, changes of font, and places where a word may be
-- cut. Escapes are those of `\w` (nr_settings, Escapes and Widths): as long, and as wide where the page shows it.
use Rattle.std.specs.Prelude.{ℕ, ◌+◌, min, Bool, true, false, ◌==◌, ◌&&◌, ◌||◌, nat_le, List, [], ◌∷◌, length, take, codes, Option, None, Some, if◌then◌else◌, not}
use Rattle.std.specs.Str.{bytes_eq}
use Prim.Native.Char.{code}
use Rattle.nr_settings.specs.Characters.{prints as is_printed}
use Rattle.nr_settings.specs.Escapes.{is_one_of, escape_name_len, bracketed, register_len, delimited_len, size_len, len_before}
use Rattle.nr_settings.specs.Specials.{special_of}
use Rattle.nr_settings.specs.declared.specials.Special.{Special}
use Rattle.nr_settings.specs.declared.specials.Special.TheVariants as specials
use Rattle.tbl_blocks.specs.declared.parts.Font.TheVariants as fonts
use Rattle.tbl_blocks.specs.declared.parts.Known.{Known}
use Rattle.tbl_blocks.specs.declared.units.Does.{Does}
use Rattle.tbl_blocks.specs.declared.units.Does.TheVariants as does
use Rattle.tbl_blocks.specs.declared.units.Escape.{Escape}
use Rattle.tbl_blocks.specs.declared.units.Escape.TheVariants as kinds
use Rattle.tbl_blocks.specs.declared.units.Unit.{Unit}

-- one byte, the two after `(`, or those in brackets
abbrev pub name_in : List ℕ → List ℕ
name_in [] = []
name_in (b ∷ bs) = if b == code "(" then take 2 bs else if b == code "[" then bracketed bs else take 1 (b ∷ bs)

-- ---- characters

abbrev pub is_letter : ℕ → Bool
is_letter b = (nat_le (code "a") b && nat_le b (code "z")) || (nat_le (code "A") b && nat_le b (code "Z"))

-- what ends a sentence
abbrev pub is_stop : ℕ → Bool
is_stop b = (b == code ".") || (b == code "?") || (b == code "!")

-- a byte that prints as it is, and neither separates words nor cuts one
abbrev pub is_plain : ℕ → Bool
is_plain b = is_printed b && not (b == code " ") && not (b == code "-") && not (b == code "\\")

-- one that prints as it is
abbrev pub is_printing : ℕ → Bool
is_printing b = is_printed b && not (b == code "\\")

abbrev pub byte_does : ℕ → Does
byte_does b =
    if is_letter b then does.Letter
    else if b == code "-" then does.Hyphen
    else if is_stop b then does.Stop
    else if (b == code " ") || (b == code "\t") then does.Blank
    else if is_printed b then does.Print
    else does.Unsure

abbrev pub prints : ℕ → ℕ → Unit
prints more cells = record { more = more; cells = cells; does = does.Print }

abbrev pub only : ℕ → Does → Unit
only more what = record { more = more; cells = 0; does = what }

abbrev pub is_sure : Does → Bool
is_sure does.Unsure = false
is_sure what = true

-- only the formatter knows what it prints: it counts as its text
abbrev pub unsure : ℕ → List ℕ → Unit
unsure more text = record { more = more; cells = 1 + min more (length text); does = does.Unsure }

abbrev pub special : ℕ → Option Special → Unit
special more None = only more does.Nothing
special more (Some specials.Hyphen) = record { more = more; cells = 1; does = does.Hyphen }
special more (Some specials.Dash) = record { more = more; cells = 2; does = does.Dash }
special more (Some specials.Bullet) = prints more 1
special more (Some specials.Apostrophe) = prints more 1
special more (Some specials.Quote) = prints more 1
special more (Some specials.Backslash) = prints more 1
special more (Some specials.Point) = only more does.Cut
special more (Some specials.Joint) = only more does.Cut

abbrev pub named : ℕ → List ℕ → Unit
named more name = special more (special_of name)

-- ---- fonts

abbrev pub letter_does : ℕ → Does
letter_does b =
    if b == code "P" then does.Back
    else if (b == code "R") || (b == code "1") then does.Font fonts.Roman
    else if (b == code "I") || (b == code "2") then does.Font fonts.Italic
    else if (b == code "B") || (b == code "3") then does.Font fonts.Bold
    else does.Nothing

abbrev pub font_does : List ℕ → Does
font_does [] = does.Back
font_does (b ∷ []) = letter_does b
font_does (b ∷ c ∷ more) = does.Nothing

-- ---- strings

abbrev pub cells_of : List ℕ → List Known → Option ℕ
cells_of name [] = None
cells_of name (k ∷ ks) = if bytes_eq k.name name then Some k.cells else cells_of name ks

-- those of macro files for manual pages: Aq lq rq are a quote, R (R), Tm (Tm), S nothing; 0 is no second letter
abbrev pub page_cells : ℕ → ℕ → Option ℕ
page_cells a b =
    if ((a == code "A") && (b == code "q")) || ((a == code "l") && (b == code "q")) || ((a == code "r") && (b == code "q")) then Some 1
    else if (a == code "R") && (b == 0) then Some 3
    else if (a == code "T") && (b == code "m") then Some 4
    else if (a == code "S") && (b == 0) then Some 0
    else None

abbrev pub usual_cells : List ℕ → Option ℕ
usual_cells [] = None
usual_cells (a ∷ []) = page_cells a 0
usual_cells (a ∷ b ∷ []) = page_cells a b
usual_cells (a ∷ b ∷ c ∷ more) = None

abbrev pub cells_or : Option ℕ → Option ℕ → Option ℕ
cells_or None other = other
cells_or (Some cells) other = Some cells

abbrev pub string_cells : List ℕ → List Known → Option ℕ
string_cells name strings = cells_or (cells_of name strings) (usual_cells name)

abbrev pub string_as : ℕ → List ℕ → Option ℕ → Unit
string_as more text None = unsure more text
string_as more text (Some cells) = prints more cells

abbrev pub string_of : List ℕ → List Known → Unit
string_of text strings =
    string_as (1 + escape_name_len true text) text (string_cells (name_in text) strings)

-- ---- escapes

-- by the byte after the backslash, as `\w` has them (nr_settings, Escapes): backslash, quote and blank stand for themselves here
abbrev pub escape_by : ℕ → Escape
escape_by b =
    if is_one_of (code "\\" ∷ code "'" ∷ code " " ∷ codes "e0-.`") b then kinds.OneCell
    else if is_one_of (code "\n" ∷ codes "&|^!%cdurzpat{}") b then kinds.Nothing
    else if b == code "\"" then kinds.Comment
    else if b == code "$" then kinds.Argument
    else if is_one_of (codes "*fk") b then kinds.Named
    else if b == code "n" then kinds.Register
    else if b == code "(" then kinds.Pair
    else if b == code "[" then kinds.Bracket
    else if is_one_of (codes "hl") b then kinds.Delimited
    else if is_one_of (codes "vxboLDw") b then kinds.Delimited
    else if b == code "s" then kinds.Size
    else kinds.Plain

abbrev pub one_cell : ℕ → Unit
one_cell b = if b == code "." then record { more = 1; cells = 1; does = does.Stop } else prints 1 1

abbrev pub no_cell : ℕ → Unit
no_cell b =
    if b == code "%" then only 1 does.Point else if b == code "&" then prints 1 0 else only 1 does.Nothing

abbrev pub with_name : ℕ → List ℕ → List Known → Unit
with_name b text strings =
    if b == code "*" then string_of text strings
    else if b == code "f" then only (1 + escape_name_len true text) (font_does (name_in text))
    else only (1 + escape_name_len true text) does.Nothing

abbrev pub unit_in : Escape → ℕ → List ℕ → List Known → Unit
unit_in kinds.OneCell b text strings = one_cell b
unit_in kinds.Nothing b text strings = no_cell b
unit_in kinds.Comment b text strings = only (1 + length text) does.Comment
unit_in kinds.Argument b text strings = unsure 2 text
unit_in kinds.Named b text strings = with_name b text strings
unit_in kinds.Register b text strings = unsure (1 + register_len true text) text
unit_in kinds.Pair b text strings = named 3 (take 2 text)
unit_in kinds.Bracket b text strings = named (2 + len_before (code "]") text) (bracketed text)
unit_in kinds.Delimited b text strings = unsure (1 + delimited_len text) text
unit_in kinds.Size b text strings = only (1 + size_len text) does.Nothing
unit_in kinds.Plain b text strings = prints 1 (if is_printed b then 1 else 0)

abbrev pub escape : List ℕ → List Known → Unit
escape [] strings = only 0 does.Nothing
escape (b ∷ text) strings = unit_in (escape_by b) b text strings

-- the unit that begins with a byte, with what stands after that
abbrev pub unit_of : ℕ → List ℕ → List Known → Unit
unit_of b text strings =
    if b == code "\\" then escape text strings else record { more = 0; cells = 1; does = byte_does b }
