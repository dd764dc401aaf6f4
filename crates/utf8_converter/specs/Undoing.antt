-- The bytes that stand for characters where they are formatted, and what becomes of them.
use Prim.Native.Char.{code}
use Rattle.std.specs.Prelude.{◌≡◌, ℕ, List, [], ◌∷◌, ◌++◌, Bool, true, ◌&&◌, ◌||◌, nat_lt, if◌then◌else◌}
use Rattle.std.specs.Prelude.{Option, None, Some, encode_utf8_all}
use Rattle.nr_vectors.specs.Cell.{is_plain}
use Rattle.nr_vectors.specs.declared.cell.Look.{Look}
use Rattle.nr_vectors.specs.declared.cell.Look.TheVariants.{Plain, Under, Bold}
use Rattle.utf8_characters.specs.declared.table.FixedTable.{FixedTable}
use Rattle.utf8_characters.specs.Tables.{byte_of}
use Rattle.utf8_converter.specs.Cells.{cells, converted, is_shown}
use Rattle.utf8_converter.specs.Lines.{characters_in}

-- a character of ASCII stands for itself, and one of the table has its byte
abbrev pub byte_for : FixedTable → ℕ → Option ℕ
byte_for table c = if is_shown c then Some c else byte_of table c

-- a character of a text, and how it looks
pub record Letter : Type 0 where
  pub character : ℕ
  pub look : Look

-- a byte as nroff prints it: underlined over `_`, bold over itself
abbrev pub struck : Look → ℕ → List ℕ
struck Plain b = b ∷ []
struck Under b = code "_" ∷ 8 ∷ b ∷ []
struck Bold b = b ∷ 8 ∷ b ∷ []

-- where both are there
abbrev pub joined : Look → Option ℕ → Option (List ℕ) → Option (List ℕ)
joined look None bytes = None
joined look (Some b) None = None
joined look (Some b) (Some bytes) = Some (struck look b ++ bytes)

-- the bytes of a text, where each of its characters has one
abbrev pub bytes_for : FixedTable → List Letter → Option (List ℕ)
bytes_for table [] = Some []
bytes_for table (c ∷ text) = joined c.look (byte_for table c.character) (bytes_for table text)

abbrev pub plain_text : List Letter → List ℕ
plain_text [] = []
plain_text (c ∷ text) = c.character ∷ plain_text text

abbrev pub all_plain : List Letter → Bool
all_plain [] = true
all_plain (c ∷ text) = is_plain c.look && all_plain text

-- blanks and newlines are plain
abbrev pub all_look : List Letter → Bool
all_look [] = true
all_look (c ∷ text) = (is_plain c.look || nat_lt (code " ") c.character) && all_look text

-- What is struck over taken out, a text comes back through both tables; if it is plain, as the text itself,
-- in UTF-8.
pub record IsBack (table : FixedTable) (escapes : Bool) (text : List Letter) (bytes : List ℕ) : Type 0 where
  pub characters : characters_in table (cells table bytes) ≡ plain_text text
  pub plain : all_plain text ≡ true → converted table escapes bytes ≡ encode_utf8_all (plain_text text)

abbrev pub TurnsBack : FixedTable → Type 0
TurnsBack table = (escapes : Bool) (text : List Letter) (bytes : List ℕ) → all_look text ≡ true
    → bytes_for table text ≡ Some bytes → IsBack table escapes text bytes
