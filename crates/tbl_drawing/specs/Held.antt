-- A table as it is measured and drawn: its grid, its lines, how high its rows are, and on which line each field begins.
use Rattle.std.specs.Prelude.{ℕ, ◌+◌, ◌*◌, Bool, false, ◌||◌, nat_lt, length, get_or}
use Rattle.tbl_columns.specs.declared.grid.Grid.{Grid}
use Rattle.tbl_columns.specs.declared.grid.Room.{Room}
use Rattle.tbl_columns.specs.Held as grids
use Rattle.tbl_drawing.specs.declared.layout.Layout.{Layout}
use Rattle.tbl_drawing.specs.declared.layout.Step.{Step}
use Rattle.tbl_drawing.specs.declared.layout.StepKind.TheVariants as steps
use Rattle.tbl_drawing.specs.declared.layout.Tall.{Tall}
use Rattle.tbl_table.specs.declared.signs.Signs.{Signs}
use Rattle.tbl_table.specs.Held.{none_of}
use Rattle.tbl_table.specs.Sums.{sum}
use Rattle.tbl_table.specs.Table.{item_room, room_for, row_room}

abbrev pub no_step : Step
no_step = record { kind = steps.Bars 0 0; line = 0 }

-- a row whose own fields take so many lines
abbrev pub tall_of : ℕ → Tall
tall_of height = record { step = 0; height = height; more = 0 }

abbrev pub lines_of : Tall → ℕ
lines_of tall = sum tall.height tall.more

-- ---- by number

abbrev pub step : Layout → ℕ → Step
step l n = get_or l.steps.items n no_step

abbrev pub tall : Layout → ℕ → Tall
tall l r = get_or l.talls.items r (tall_of 1)

abbrev pub begin_line : Layout → ℕ → ℕ
begin_line l n = get_or l.begins.items n 0

-- ---- before all, where a table begins, where a part of it went out

-- of an item stand four lines in a table at most, and four more at its beginning and its end
abbrev pub first_layout : Signs → Room → ℕ → ℕ → Layout
first_layout signs room most row = record {
  grid = grids.first_grid signs room most row;
  steps = room_for (item_room most * 4 + 4);
  talls = room_for (row_room most);
  begins = room_for (grids.cell_room most);
  begun = false;
  measured = false;
  uneven = false;
}

abbrev pub memory_of : ℕ → ℕ → ℕ
memory_of most row = grids.memory_of most row + (item_room most * 4 + 4) + row_room most + grids.cell_room most

abbrev pub with_grid : Grid → Layout → Layout
with_grid g l = record l { grid = g }

abbrev pub forgotten_lines : Layout → Layout
forgotten_lines l = record l { steps = none_of l.steps; talls = none_of l.talls; begins = none_of l.begins }

abbrev pub begun : Layout → Layout
begun l = record (forgotten_lines (with_grid (grids.begun l.grid) l)) { begun = false; measured = false }

abbrev pub page_begun : Layout → Layout
page_begun l = record (begun l) { uneven = false }

-- rows or requests were read, or went out
abbrev pub has_begun : Layout → Bool
has_begun l = l.begun || nat_lt 0 (length l.grid.table.items.items)

-- a table that holds nothing, in the same room
abbrev pub emptied : Layout → Layout
emptied l = record {
  grid = grids.emptied l.grid;
  steps = none_of l.steps;
  talls = none_of l.talls;
  begins = none_of l.begins;
  begun = false;
  measured = false;
  uneven = false;
}
