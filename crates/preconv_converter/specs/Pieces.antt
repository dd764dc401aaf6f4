-- What goes out of a page, piece by piece.
use Prim.Native.Char.{code}
use Rattle.std.specs.Prelude.{◌≡◌, ℕ, List, [], ◌∷◌, ◌++◌, codes}
use Rattle.std.specs.Char.{encode_utf8}
use Rattle.preconv_characters.specs.declared.target.Target.{Target}
use Rattle.preconv_characters.specs.Likeness.{likeness}
use Rattle.preconv_characters.specs.Saying.{all_sent}
use Rattle.preconv_characters.specs.Glyphs.{letter_of}
use Rattle.preconv_lines.specs.Faces.{font_or}

-- A byte as it came; a character, by itself or by its name, as what it looks like; a font, as one of a
-- terminal; a hyphen, after which no line is broken; the end of a line whose sentence brackets or quotes
-- close; below a tag an empty line, and a blank that begins a line. In a font macro's line, a quote before
-- the ninth word and after the last, a quote around one of these words that is left out, and a blank between
-- them where the font changes. What stands before a blank that is printed where a line or its first word
-- begins with it, and where that word is empty or begins with a quote.
pub data Piece : Type 0 where
  Same : ℕ → Piece
  Looks : ℕ → Piece
  Named : ℕ → ℕ → ℕ → Piece
  Face : ℕ → Piece
  Hyphen : Piece
  SentenceEnd : Piece
  EmptyBelow : Piece
  BlankBelow : Piece
  Quote : Piece
  Unquote : Piece
  Turn : ℕ → Piece
  Printed : Piece

-- the letter of a font with a name of one byte
abbrev pub face_of : ℕ → ℕ
face_of b = font_or (letter_of b) (code "R")

-- what a piece was
abbrev pub was : Piece → List ℕ
was (Same b) = b ∷ []
was (Looks c) = encode_utf8 c
was (Named a b c) = codes "\\(" ++ a ∷ b ∷ []
was (Face b) = codes "\\f" ++ b ∷ []
was Hyphen = codes "-"
was SentenceEnd = codes "\n"
was EmptyBelow = codes "\n"
was BlankBelow = codes " "
was Quote = []
was Unquote = codes "\""
was (Turn letter) = codes " "
was Printed = []

-- and what it becomes
abbrev pub becomes : Target → Piece → List ℕ
becomes table (Same b) = b ∷ []
becomes table (Looks c) = all_sent table (likeness table c)
becomes table (Named a b c) = all_sent table (likeness table c)
becomes table (Face b) = codes "\\f" ++ face_of b ∷ []
becomes table Hyphen = codes "\\-"
becomes table SentenceEnd = codes "\\*(.\\n(.u\n"
becomes table EmptyBelow = codes ".sp\n"
becomes table BlankBelow = codes ".br\n "
becomes table Quote = codes "\""
becomes table Unquote = []
becomes table (Turn letter) = codes "\\f" ++ letter ∷ []
becomes table Printed = codes "\\&"

abbrev pub all_were : List Piece → List ℕ
all_were [] = []
all_were (p ∷ ps) = was p ++ all_were ps

abbrev pub all_become : Target → List Piece → List ℕ
all_become table [] = []
all_become table (p ∷ ps) = becomes table p ++ all_become table ps

-- The text is a row of pieces, and what goes out are these pieces, once and in order.
pub record GoesOut (table : Target) (text said : List ℕ) : Type 0 where
  pub pieces : List Piece
  pub came : text ≡ all_were pieces
  pub goes : said ≡ all_become table pieces
