-- Requests in parts: bytes and numbers, one after the other.
use Rattle.std.specs.Prelude.{ℕ, Bool, List, [], ◌∷◌, ◌++◌, codes, decimal, if◌then◌else◌}
use Rattle.tbl_drawing.specs.declared.writing.Piece.{Piece}
use Rattle.tbl_drawing.specs.declared.writing.Piece.TheVariants as pieces

abbrev pub piece_text : Piece → List ℕ
piece_text (pieces.T bytes) = bytes.now
piece_text (pieces.N number) = decimal number

abbrev pub texts_of : List Piece → List ℕ
texts_of [] = []
texts_of (p ∷ ps) = piece_text p ++ texts_of ps

-- texts one after the other, and those of a line
abbrev pub parts : List (List ℕ) → List ℕ
parts [] = []
parts (x ∷ xs) = x ++ parts xs

abbrev pub line : List (List ℕ) → List ℕ
line xs = parts xs ++ codes "\n"

abbrev pub text_if : Bool → List ℕ → List ℕ
text_if asked text = if asked then text else []
