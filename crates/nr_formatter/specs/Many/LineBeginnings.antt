-- The beginning of a text line, where what is collected has begun.
use Rattle.std.specs.Prelude.{◌≡◌, ◌≢◌, ◌<◌, ℕ, Bool, true, false, not, ◌&&◌, List, length, slice_index, is_none}
use Rattle.nr_fill.specs.Piece.{begins_line, text_cells}
use Rattle.nr_fill.specs.Plain.{IsPlain}
use Rattle.nr_reading.specs.Many.LineBeginnings.{begins_control, is_at_text as reads_text, text_begun as half_begun}
use Rattle.nr_input.specs.Acting.{on_half}
use Rattle.nr_formatter.specs.Access.{collected}
use Rattle.nr_formatter.specs.Many.Runs.{reads_next}
use Rattle.nr_formatter.specs.declared.formatter.Formatter.{Formatter}

-- the next item is read in a text line or at the beginning of a line, and what is collected has begun
abbrev pub is_at_text : Formatter → Bool
is_at_text f =
    ((is_none f.springs && reads_next f.event f.task) && reads_text f.reader.half)
    && not (begins_line (collected f))

-- A line's text begins with these bytes, and the first of them is put: it is plain and no control character, and the line that is
-- collected is not full.
pub record BeginsText (bs : List ℕ) (f : Formatter) : Type 0 where
  pub some : 0 < length bs
  pub plain : IsPlain (slice_index bs 0)
  pub control : begins_control (slice_index bs 0) f.reader.half.signs ≡ false
  pub room : text_cells (collected f) ≢ f.line.limit

-- the text of the line has begun
abbrev pub text_begun : Formatter → Formatter
text_begun f = record f { reader = on_half half_begun f.reader }

-- it begins with these bytes, or nothing changes
abbrev pub AfterBeginning : List ℕ → Formatter → Bool → Formatter → Type 0
AfterBeginning bs f true g = BeginsText bs f × (g ≡ text_begun f)
AfterBeginning bs f false g = (BeginsText bs f → ⊥) × (g ≡ f)
