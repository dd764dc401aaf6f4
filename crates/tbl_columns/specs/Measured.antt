-- How wide the columns of a table are, and where they stand: in four stages.
--
-- 1. A column is as wide as the widest field that stands in it alone, as `w` says, and one cell at least; columns of `e` are as wide as the
--    widest of them; what fields over several columns lack is dealt out to these.
-- 2. Blocks are filled in the order of rows, each as wide as its columns are by then, or as its share of the line; columns become as wide as
--    the widest of their lines.
-- 3. Columns of `x` share what is left of the line, and then their blocks are filled; or with `expand` the spaces between columns share it.
-- 4. A table that is wider than the line is narrowed.
use Rattle.std.specs.Prelude.{ℕ, ◌-◌, Bool, true, false, nat_lt, length, if◌then◌else◌}
use Rattle.tbl_columns.specs.declared.grid.Grid.{Grid}
use Rattle.tbl_columns.specs.Cells.{placed_cells}
use Rattle.tbl_columns.specs.Columns.{made_equal, measured_fields, measured_spans, span_width}
use Rattle.tbl_columns.specs.Frames.{laid_out}
use Rattle.tbl_columns.specs.Held.{columns}
use Rattle.tbl_columns.specs.Narrow.{lines_kept, long_fields_read, narrowed}
use Rattle.tbl_columns.specs.Shares.{has_wide, shared_columns, shared_gaps}
use Rattle.tbl_columns.specs.Texts.{all_filled_within, blocks_read, filled_blocks}

-- rows are placed, and the words of their blocks read
abbrev pub placed_table : Grid → Grid
placed_table g = blocks_read (placed_cells g)

abbrev pub by_fields : Grid → Grid
by_fields g = made_equal (measured_spans (made_equal (measured_fields g)))

abbrev pub by_blocks : Grid → Grid
by_blocks g = laid_out (made_equal (filled_blocks false g))

abbrev pub line_shared : Grid → Grid
line_shared g =
    if has_wide g then filled_blocks true (shared_columns g) else
    if g.table.looks.expand then shared_gaps g else g

abbrev pub measured_columns : Grid → Grid
measured_columns g = laid_out (line_shared (by_blocks (by_fields g)))

abbrev pub measured_table : Grid → Grid
measured_table g = narrowed (measured_columns g)

-- ---- a part of a table that is not the first: columns are as wide as before at least; those that were narrowed stay as they are

abbrev pub whole_width : Grid → ℕ
whole_width g = span_width g 0 (columns g - 1)

abbrev pub part_filled : Grid → Grid
part_filled g = all_filled_within (lines_kept (long_fields_read g))

abbrev pub part_widened : Grid → Grid
part_widened g = laid_out (made_equal (filled_blocks true (filled_blocks false (by_fields g))))

abbrev pub measured_part : Grid → Grid
measured_part g = if g.narrowed then part_filled g else part_widened g

-- its columns have become wider
abbrev pub has_grown : Grid → Bool
has_grown g = nat_lt (whole_width g) (whole_width (measured_part g))
