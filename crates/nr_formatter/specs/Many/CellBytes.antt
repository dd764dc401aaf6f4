-- Bytes in the midst of a text line that go to its word and do not end it: a hyphen, a blank where lines are not filled, a tab where no
-- text for a stop is read.
use Prim.Native.Char.{code}
use Rattle.std.specs.Prelude.{◌≡◌, ◌≤◌, ℕ, Bool, true, not, ◌==◌, if◌then◌else◌, List, [], ◌∷◌, unwrap_or}
use Rattle.nr_fill.specs.declared.piece.CutAfter.TheVariants.{Hyphen}
use Rattle.nr_fill.specs.Piece.{Collected, add_blank, add_cell, line_cells}
use Rattle.nr_fill.specs.Tabs.{tabbed}
use Rattle.nr_formatter.specs.Access.{cell, collected, is_filling, margins, with_collected}
use Rattle.nr_formatter.specs.Lines.{reads_a_field}
use Rattle.nr_formatter.specs.Many.Runs.{is_in_line}
use Rattle.nr_formatter.specs.declared.formatter.Formatter.{Formatter}

-- such a byte
abbrev pub goes_to_word : ℕ → Formatter → Bool
goes_to_word b f =
    if b == code " " then not (is_filling f)
    else (if b == code "\t" then not (reads_a_field f) else b == code "-")

-- what is collected after it
abbrev pub byte_added : ℕ → Formatter → Collected
byte_added b f =
    if b == code " " then add_blank (margins f) (collected f)
    else (if b == code "\t" then tabbed (margins f) f.settings.tabs.stops (not f.settings.filling.fill)
    (cell (unwrap_or f.settings.tabs.tab (code " ")) f) (collected f)
    else add_cell (margins f) Hyphen (cell b f) (collected f))

abbrev pub byte_put : ℕ → Formatter → Formatter
byte_put b f = with_collected (byte_added b f) f

-- such a byte in a text line that has begun, which passes no limit
pub record IsCellByte (b : ℕ) (f : Formatter) : Type 0 where
  pub line : is_in_line f ≡ true
  pub goes : goes_to_word b f ≡ true
  pub within : line_cells (byte_added b f) ≤ f.line.limit

-- these bytes one after another, each such a byte
abbrev pub PutsCellBytes : List ℕ → Formatter → Formatter → Type 0
PutsCellBytes [] f g = g ≡ f
PutsCellBytes (b ∷ bs) f g = IsCellByte b f × PutsCellBytes bs (byte_put b f) g
