-- What may go to a terminal.
use Prim.Native.Char.{code}
use Rattle.std.specs.Prelude.{◌≡◌, ℕ, List, [], ◌∷◌, ◌++◌, Bool, true, not, ◌==◌, ◌&&◌, ◌||◌, nat_lt}
use Rattle.std.specs.Prelude.{encode_utf8_all}
use Rattle.std.specs.Str.{all_scalars}
use Rattle.nr_vectors.specs.declared.cell.Look.{Look}
use Rattle.utf8_characters.specs.OneCell.{is_one_cell}
use Rattle.utf8_converter.specs.Cells.{closing, is_shown, opening}

-- What is written at once: a character; one after another and a backspace; the escape sequences that begin
-- and end a look.
pub data Part : Type 0 where
  Printed : ℕ → Part
  Overstruck : ℕ → ℕ → Part
  Begin : Look → Part
  End : Look → Part

-- its characters
abbrev pub characters_of : Part → List ℕ
characters_of (Printed c) = c ∷ []
characters_of (Overstruck a c) = a ∷ 8 ∷ c ∷ []
characters_of (Begin look) = opening look
characters_of (End look) = closing look

abbrev pub all_characters : List Part → List ℕ
all_characters [] = []
all_characters (part ∷ parts) = characters_of part ++ all_characters parts

-- a newline, a blank, a character of ASCII that shows something, or one of one cell
abbrev pub is_printed : ℕ → Bool
is_printed c = is_shown c || is_one_cell c

-- No control character but newline; a backspace only between a character that shows and itself, or `_`;
-- escape sequences only where they are asked for, and no backspace then.
abbrev pub is_clean : Bool → Part → Bool
is_clean escapes (Printed c) = is_printed c
is_clean escapes (Overstruck a c) =
    not escapes && ((a == c) || (a == code "_")) && (nat_lt (code " ") c && is_printed c)
is_clean escapes (Begin look) = escapes
is_clean escapes (End look) = escapes

abbrev pub all_clean : Bool → List Part → Bool
all_clean escapes [] = true
all_clean escapes (part ∷ parts) = is_clean escapes part && all_clean escapes parts

-- the UTF-8 of such parts (RFC 3629)
pub record IsText (escapes : Bool) (bytes : List ℕ) : Type 0 where
  pub parts : List Part
  pub clean : all_clean escapes parts ≡ true
  pub scalars : all_scalars (all_characters parts) ≡ true
  pub spelled : encode_utf8_all (all_characters parts) ≡ bytes
