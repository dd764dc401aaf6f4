-- What stands in the cells of what comes and of what goes out, and the lines of these.
use Prim.Native.Char.{code}
use Rattle.std.specs.Prelude.{◌≡◌, ℕ, ◌+◌, List, [], ◌∷◌, ◌++◌, Bool, ◌==◌, if◌then◌else◌, Option, None, Some}
use Rattle.utf8_characters.specs.declared.table.FixedTable.{FixedTable}
use Rattle.utf8_converter.specs.Cells.{Cell, cells, character_for, top}
use Rattle.utf8_converter.specs.Text.{Part, Printed, Overstruck, Begin, End, IsText}

-- ---- what comes

abbrev pub listed : Option ℕ → List ℕ
listed None = []
listed (Some c) = c ∷ []

-- the characters of cells, of struck ones those that show; newlines are among them
abbrev pub characters_in : FixedTable → List Cell → List ℕ
characters_in table [] = []
characters_in table (c ∷ cs) = listed (character_for table (top c)) ++ characters_in table cs

-- ---- what goes out

abbrev pub bare_of : Part → List ℕ
bare_of (Printed c) = c ∷ []
bare_of (Overstruck a c) = c ∷ []
bare_of (Begin look) = []
bare_of (End look) = []

-- what is left without sequences and what is struck over
abbrev pub bare : List Part → List ℕ
bare [] = []
bare (part ∷ parts) = bare_of part ++ bare parts

-- ---- lines

abbrev pub one_more : List ℕ → List ℕ
one_more [] = []
one_more (n ∷ ns) = (n + 1) ∷ ns

-- how many cells each line has
abbrev pub cells_of_lines : List ℕ → List ℕ
cells_of_lines [] = 0 ∷ []
cells_of_lines (c ∷ cs) = if c == code "\n" then 0 ∷ cells_of_lines cs else one_more (cells_of_lines cs)

-- a text for a terminal, of the characters that came, and so each line has as many cells
pub record KeepsLines (table : FixedTable) (escapes : Bool) (bytes output : List ℕ) : Type 0 where
  pub text : IsText escapes output
  pub characters : bare text.parts ≡ characters_in table (cells table bytes)
  pub lines : cells_of_lines (bare text.parts) ≡ cells_of_lines (characters_in table (cells table bytes))
