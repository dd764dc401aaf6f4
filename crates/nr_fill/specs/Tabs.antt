-- Tabs and leaders. (CSTR 54, section 9.)
use Rattle.std.specs.Prelude.{ℕ, ◌-◌, ◌/◌, Bool, false, nat_lt, if◌then◌else◌, List, ◌++◌, length, take, drop, replicate, find, Option, None, Some}
use Rattle.nr_vectors.specs.declared.cell.Cell.{Cell}
use Rattle.nr_settings.specs.declared.indents.Margins.{Margins}
use Rattle.nr_fill.specs.declared.stops.Field.{Field}
use Rattle.nr_fill.specs.declared.stops.Pending.{Pending}
use Rattle.nr_fill.specs.declared.stops.Pending.TheVariants.{Nothing, ForStop}
use Rattle.nr_settings.specs.declared.stops.Stop.{Stop}
use Rattle.nr_settings.specs.declared.stops.StopKind.{StopKind}
use Rattle.nr_settings.specs.declared.stops.StopKind.TheVariants.{Left, Right, Centre}
use Rattle.nr_fill.specs.Piece.{Word, Collected, word_or_new, word_pieces, with_word, in_word, ended, add_cells}
use Rattle.nr_fill.specs.Cutting.{width}

-- how many cells stand before the next one of the word, counted from the indent
abbrev pub column : Collected → ℕ
column c = width (c.pieces ++ word_pieces (Some (word_or_new c.gap c.word)))

-- the first stop in the list that lies beyond the column
abbrev pub first_beyond : ℕ → List Stop → Option Stop
first_beyond column stops = find (λ (s : Stop). nat_lt column s.column) stops

-- right and centring stops align the text after them, where stops align text at all
abbrev pub is_aligned : Bool → StopKind → Bool
is_aligned aligned Left = false
is_aligned aligned Right = aligned
is_aligned aligned Centre = aligned

-- the text for a stop begins here, so many cells before the stop
abbrev pub with_field : ℕ → StopKind → Cell → Word → Word
with_field width kind fill w =
    record w {
      pending = ForStop (record {
        before = length w.last.cells;
        width = width;
        kind = kind;
        fill = fill;
      });
      blanks = 0;
    }

abbrev pub to_stop : Margins → Bool → Cell → Collected → Option Stop → Collected
to_stop margins aligned fill c None = with_word margins c
to_stop margins aligned fill c (Some s) =
    if is_aligned aligned s.kind then in_word (with_field (s.column - column c) s.kind fill)
    (in_word ended (with_word margins c))
    else add_cells margins fill (s.column - column c) c

-- A tab or leader is part of a word. It goes to the first stop beyond the column, or does nothing more.
abbrev pub tabbed : Margins → List Stop → Bool → Cell → Collected → Collected
tabbed margins stops aligned fill c = to_stop margins aligned fill c (first_beyond (column c) stops)

-- how many of n cells stand before the stop
abbrev pub before_stop : StopKind → ℕ → ℕ
before_stop Left n = 0
before_stop Right n = n
before_stop Centre n = n / 2

-- how many cells are filled in before the text, which has n
abbrev pub fill_count : Field → ℕ → ℕ
fill_count f n = f.width - before_stop f.kind n

abbrev pub filled_by : Pending → Word → Word
filled_by (ForStop f) w =
    record w {
      last = record w.last {
        cells =
            take f.before w.last.cells ++ replicate (fill_count f (length w.last.cells - f.before)) f.fill
            ++ drop f.before w.last.cells;
      };
      pending = Nothing;
    }
filled_by pending w = w

-- by how many cells the text for a stop is filled up
abbrev pub pending_fill : Pending → ℕ → ℕ
pending_fill (ForStop f) n = fill_count f (n - f.before)
pending_fill pending n = 0

abbrev pub field_fill : Option Word → ℕ
field_fill None = 0
field_fill (Some w) = pending_fill w.pending (length w.last.cells)

-- the text for a stop ends
abbrev pub with_field_filled : Collected → Collected
with_field_filled c = in_word (λ (w : Word). filled_by w.pending w) c
