-- A table, or the part of it that was read so far, is measured and goes out as lines (Lesk, "Usage"; tbl(1), "Description"): its fields are
-- placed, its columns measured, its rows given their heights and its fields their lines; then the lines go out in their order.
use Rattle.std.specs.Prelude.{Bool, true, false, ◌==◌, ◌||◌, not, List, [], ◌∷◌, ◌++◌, if◌then◌else◌}
use Rattle.tbl_columns.specs.Columns.{columns_read}
use Rattle.tbl_columns.specs.Held as grids
use Rattle.tbl_columns.specs.Measured.{has_grown, measured_part, measured_table, placed_table}
use Rattle.tbl_drawing.specs.declared.layout.Layout.{Layout}
use Rattle.tbl_drawing.specs.Heights.{all_lines, heights_settled, lines_settled}
use Rattle.tbl_drawing.specs.Held.{forgotten_lines, with_grid}
use Rattle.tbl_drawing.specs.Lines.{closing, lines_strokes}
use Rattle.tbl_drawing.specs.Pens.{Stroke, Bytes}
use Rattle.tbl_table.specs.Table.{width}

-- ---- the columns are those of the formats that were read: lines that went out stay as they are

abbrev pub columns_stand : Layout → Bool
columns_stand l = grids.columns l.grid == width l.grid.table

abbrev pub columns_renewed : Layout → Layout
columns_renewed l = record (with_grid (columns_read l.grid) l) { measured = false }

abbrev pub columns_opened : Layout → Layout
columns_opened l = if columns_stand l then l else columns_renewed l

abbrev pub columns_strokes : Layout → List Stroke
columns_strokes l = if columns_stand l then [] else Bytes (closing l.measured) ∷ []

-- ---- fields in their places, and columns with their widths

abbrev pub placed : Layout → Layout
placed l = with_grid (placed_table l.grid) l

-- a part that goes on has its columns as wide as before at least
abbrev pub part_measured : Layout → Layout
part_measured l = record (with_grid (measured_part l.grid) l) { uneven = has_grown l.grid || l.uneven }

abbrev pub table_measured : Layout → Layout
table_measured l = with_grid (measured_table l.grid) l

abbrev pub measured : Layout → Layout
measured l = if l.measured then part_measured l else table_measured l

-- ---- lines

abbrev pub laid : Bool → Layout → Layout
laid ends l = record (lines_settled (heights_settled ends l)) { measured = not ends }

abbrev pub ready : Layout → Layout
ready l = measured (placed (columns_opened l))

abbrev pub table_strokes : Bool → Layout → List Stroke
table_strokes ends l =
    columns_strokes l ++ lines_strokes (laid ends (ready l)) (not (ready l).measured) (all_lines ends (ready l)) ends

-- its rows are forgotten then
abbrev pub part_forgotten : Layout → Layout
part_forgotten l = forgotten_lines (record (with_grid (grids.forgotten l.grid) l) { begun = true })

abbrev pub table_after : Bool → Layout → Layout
table_after ends l = part_forgotten (laid ends (ready l))
