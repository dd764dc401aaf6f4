-- What comes of bytes: they are read into cells, and cells are printed. (groff manual, grotty; less(1);
-- ul(1).)
use Prim.Native.Char.{code}
use Rattle.std.specs.Prelude.{ℕ, ◌+◌, ◌-◌, List, [], ◌∷◌, ◌++◌, length, Bool, true, false, not, ◌==◌, ◌&&◌}
use Rattle.std.specs.Prelude.{◌||◌, nat_le, nat_lt, if◌then◌else◌, Option, None, Some, is_some, codes}
use Rattle.std.specs.Char.{encode_utf8}
use Rattle.nr_vectors.specs.Cell.{is_under}
use Rattle.nr_vectors.specs.declared.cell.Look.{Look}
use Rattle.nr_vectors.specs.declared.cell.Look.TheVariants.{Plain, Under, Bold}
use Rattle.utf8_characters.specs.declared.table.FixedTable.{FixedTable}
use Rattle.utf8_characters.specs.Tables.{character_of}
use Rattle.utf8_converter.specs.declared.reader.Way.{Way}
use Rattle.utf8_converter.specs.declared.reader.Way.TheVariants.{Backspaces, Escapes}

-- ---- bytes

-- a character of ASCII that shows something, a blank, or a newline
abbrev pub is_shown : ℕ → Bool
is_shown b = (b == code "\n") || (nat_le (code " ") b && nat_lt b 127)

-- the character that a byte goes out as, of ASCII or of the table; another byte is dropped
abbrev pub character_for : FixedTable → ℕ → Option ℕ
character_for table b = if is_shown b then Some b else character_of table b

abbrev pub goes_out : FixedTable → ℕ → Bool
goes_out table b = is_some (character_for table b)

-- blanks and newlines go out and show nothing
abbrev pub shows : FixedTable → ℕ → Bool
shows table b = nat_lt (code " ") b && goes_out table b

-- ---- bytes are read into cells

-- a byte, or one that is struck over another
pub data Cell : Type 0 where
  Once : ℕ → Cell
  Over : ℕ → ℕ → Cell

-- a byte that shows is struck over itself, or over `_`
abbrev pub strikes : FixedTable → ℕ → ℕ → Bool
strikes table a b = ((a == b) || (a == code "_")) && shows table b

abbrev pub alone : FixedTable → ℕ → List Cell
alone table b = if goes_out table b then Once b ∷ [] else []

-- a backspace strikes the byte after it over that before it, or is dropped
abbrev pub cells : FixedTable → List ℕ → List Cell
cells table [] = []
cells table (a ∷ []) = alone table a
cells table (a ∷ b ∷ []) = alone table a ++ alone table b
cells table (a ∷ b ∷ c ∷ bs) =
    if (b == 8) && strikes table a c then Over a c ∷ cells table bs
    else alone table a ++ cells table (b ∷ c ∷ bs)

-- ---- cells are printed

-- the byte that shows
abbrev pub top : Cell → ℕ
top (Once b) = b
top (Over a b) = b

-- How a cell looks after one that looks so: a byte over itself is bold, but `_` after what is underlined.
abbrev pub look_of : Look → Cell → Look
look_of before (Once b) = Plain
look_of before (Over a b) =
    if (a == b) && not ((b == code "_") && is_under before) then Bold else Under

-- sequences that begin and end a look (ECMA-48, SGR)
abbrev pub opening : Look → List ℕ
opening Plain = []
opening Under = 27 ∷ codes "[4m"
opening Bold = 27 ∷ codes "[1m"

abbrev pub closing : Look → List ℕ
closing Plain = []
closing Under = 27 ∷ codes "[24m"
closing Bold = 27 ∷ codes "[22m"

abbrev pub is_same : Look → Look → Bool
is_same Plain Plain = true
is_same Under Under = true
is_same Bold Bold = true
is_same before look = false

-- what turns the look that is open into another
abbrev pub turning : Way → Look → List ℕ
turning Backspaces look = []
turning (Escapes before) look = if is_same before look then [] else closing before ++ opening look

abbrev pub if_spelled : Option ℕ → List ℕ
if_spelled None = []
if_spelled (Some c) = encode_utf8 c

-- a byte's character, in UTF-8
abbrev pub text : FixedTable → ℕ → List ℕ
text table b = if_spelled (character_for table b)

abbrev pub drawn : FixedTable → Way → Cell → List ℕ
drawn table way (Once b) = turning way Plain ++ text table b
drawn table Backspaces (Over a b) = text table a ++ 8 ∷ text table b
drawn table (Escapes before) (Over a b) =
    turning (Escapes before) (look_of before (Over a b)) ++ text table b

abbrev pub way_to : Way → Look → Way
way_to Backspaces look = Backspaces
way_to (Escapes before) look = Escapes look

abbrev pub way_after : Way → Cell → Way
way_after way (Once b) = way_to way Plain
way_after Backspaces (Over a b) = Backspaces
way_after (Escapes before) (Over a b) = Escapes (look_of before (Over a b))

-- a look that is open ends after all cells
abbrev pub printed : FixedTable → Way → List Cell → List ℕ
printed table way [] = turning way Plain
printed table way (c ∷ cs) = drawn table way c ++ printed table (way_after way c) cs

-- ---- the definition: what comes of all bytes of an input

abbrev pub first_way : Bool → Way
first_way escapes = if escapes then Escapes Plain else Backspaces

abbrev pub converted : FixedTable → Bool → List ℕ → List ℕ
converted table escapes input = printed table (first_way escapes) (cells table input)

-- how many bytes are in no cell
abbrev pub size : Cell → ℕ
size (Once b) = 1
size (Over a b) = 3

abbrev pub sizes : List Cell → ℕ
sizes [] = 0
sizes (c ∷ cs) = size c + sizes cs

abbrev pub strays_of : FixedTable → List ℕ → ℕ
strays_of table input = length input - sizes (cells table input)
