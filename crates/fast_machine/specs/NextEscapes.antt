-- Escapes that are put at once in the midst of a text line of the source: places to cut, and minuses.
use Prim.Native.Char.{code}
use Rattle.std.specs.Prelude.{◌≡◌, ◌<◌, ◌⊎◌, ℕ, List, length, slice_index}
use Rattle.nr_fill.specs.Piece.{text_cells}
use Rattle.nr_formatter.specs.Access.{collected}
use Rattle.nr_formatter.specs.declared.formatter.Formatter.{Formatter}

-- These bytes begin with `\(zb`.
pub record BeginsPoint (bs : List ℕ) : Type 0 where
  pub some : 3 < length bs
  pub backslash : slice_index bs 0 ≡ code "\\"
  pub two : slice_index bs 1 ≡ code "("
  pub first : slice_index bs 2 ≡ code "z"
  pub second : slice_index bs 3 ≡ code "b"

-- These begin with `\-`.
pub record BeginsMinus (bs : List ℕ) : Type 0 where
  pub some : 1 < length bs
  pub backslash : slice_index bs 0 ≡ code "\\"
  pub minus : slice_index bs 1 ≡ code "-"

-- They begin with one or the other, and a minus has room in the line.
abbrev pub BeginsEscape : List ℕ → Formatter → Type 0
BeginsEscape bs f = BeginsPoint bs ⊎ (BeginsMinus bs × (text_cells (collected f) < f.line.limit))
