-- What every table that is read has, of what the laws of its lines and its columns ask for.
use Rattle.std.specs.Prelude.{◌≡◌, ℕ, ◌+◌, ◌<◌, ◌≤◌, Bool, true, [], length}
use Rattle.tbl_columns.specs.declared.grid.Grid.{Grid}
use Rattle.tbl_columns.specs.declared.grid.Room.{Room}
use Rattle.tbl_columns.specs.Frames.{table_end}
use Rattle.tbl_columns.specs.Held.{cell_of, height_of, text}
use Rattle.tbl_columns.specs.Laws.{FieldsStand, LeastSpansFit, LeastsFit, least_end, lines_in}
use Rattle.tbl_columns.specs.Measured.{measured_columns, measured_table, placed_table}
use Rattle.tbl_columns.specs.Narrow.{is_too_wide, with_long_fields}
use Rattle.tbl_columns.specs.Shares.{line_room}
use Rattle.tbl_columns.specs.Texts.{widest_line}
use Rattle.tbl_drawing.specs.declared.layout.Layout.{Layout}
use Rattle.tbl_drawing.specs.Heights.{all_lines}
use Rattle.tbl_drawing.specs.Held.{emptied, first_layout}
use Rattle.tbl_drawing.specs.Laws.{HasRoom, IsRead, StandsOnce, own_rows, rows_of}
use Rattle.tbl_drawing.specs.Tables.{columns_opened, laid, ready}
use Rattle.tbl_table.specs.declared.signs.Signs.{Signs}
use Rattle.tbl_table.specs.declared.table.Table.{Table}

-- ---- rows stand below one another in their order, within the room that there is

pub record IsHeld (t : Table) : Type 0 where
  pub read : IsRead t
  pub rows : length t.rows.items ≤ t.rows.capacity
  pub items : length t.items.items ≤ t.items.capacity

-- so it is where nothing was read; it stays so where rows, rules and requests stay; and each of these is read so
abbrev pub NothingIsHeld : Type 0
NothingIsHeld = (t : Table) → t.rows.items ≡ [] → t.items.items ≡ [] → IsHeld t

abbrev pub OthersStayHeld : Type 0
OthersStayHeld = (t u : Table) → u.rows ≡ t.rows → u.items ≡ t.items → IsHeld t → IsHeld u

abbrev pub StaysHeld : (Table → Table) → Type 0
StaysHeld change = (t : Table) → IsHeld t → IsHeld (change t)

-- ---- a layout that was made for so many bytes, whose rows have so many at most: its room is the same from then on, and is enough

abbrev pub IsMadeFor : ℕ → ℕ → Layout → Type 0
IsMadeFor most row l = (signs : Signs) × (room : Room) × (emptied l ≡ emptied (first_layout signs room most row))

abbrev pub RoomIsEnough : Type 0
RoomIsEnough =
    (most row : ℕ) (l : Layout) (ends : Bool) → most + 128 < 18446744073709551616 → IsMadeFor most row l → IsHeld l.grid.table
    → all_lines ends (ready l) < 18446744073709551615 → HasRoom l ends

-- so among the lines that go out stands each row that takes room, once and in its order
abbrev pub RowsReadGoOut : Type 0
RowsReadGoOut =
    (most row : ℕ) (l : Layout) (ends : Bool) → IsMadeFor most row l → IsHeld l.grid.table
    → rows_of (laid ends (ready l)).steps.items ≡ own_rows (ready l) l.grid.table.items.items

-- and each line of a field stands once
abbrev pub FieldsReadStandOnce : Type 0
FieldsReadStandOnce =
    (most row : ℕ) (l : Layout) (ends : Bool) (n k : ℕ) → most + 128 < 18446744073709551616 → IsMadeFor most row l → IsHeld l.grid.table
    → all_lines ends (ready l) < 18446744073709551615 → n < length (ready l).grid.cells.items
    → k < height_of (ready l).grid (cell_of (ready l).grid n) → StandsOnce (laid ends (ready l)) n k

-- ---- columns that are measured: each field stands in columns that are there, and the lines of a text are no wider than what it is filled
-- in, where that is no less than its longest word

abbrev pub measured_read : Grid → Grid
measured_read g = measured_columns (placed_table g)

abbrev pub FieldsReadStand : Type 0
FieldsReadStand = (g : Grid) → FieldsStand (with_long_fields (measured_read g))

abbrev pub TextsReadFit : Type 0
TextsReadFit =
    (g : Grid) (n width : ℕ) → (text (with_long_fields (measured_read g)) n).word ≤ width
    → widest_line (lines_in width (text (with_long_fields (measured_read g)) n) (with_long_fields (measured_read g))) ≤ width

-- numbers end at 2^64 - 1
abbrev pub WordsEnd : Grid → Type 0
WordsEnd g = (n : ℕ) → (text g n).word + 2 < 18446744073709551616

-- so a table that is wider than the line fits once it is narrowed, where the least widths of its columns do, columns are no narrower than
-- these, and a field over several columns fits in them
abbrev pub ReadTablesFit : Type 0
ReadTablesFit =
    (l : Layout) → is_too_wide (measured_read (columns_opened l).grid) ≡ true → table_end (measured_read (columns_opened l).grid) < 18446744073709551615
    → WordsEnd (with_long_fields (measured_read (columns_opened l).grid)) → LeastsFit (with_long_fields (measured_read (columns_opened l).grid))
    → LeastSpansFit (with_long_fields (measured_read (columns_opened l).grid))
    → least_end (with_long_fields (measured_read (columns_opened l).grid)) ≤ line_room (measured_read (columns_opened l).grid)
    → table_end (measured_table (placed_table (columns_opened l).grid)) ≤ line_room (measured_read (columns_opened l).grid)
