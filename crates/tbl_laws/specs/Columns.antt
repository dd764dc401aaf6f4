-- Fields fit in the columns with which a table goes out, where it is not narrowed (Lesk, "Usage"; tbl(1),
-- "Column modifiers"): whatever blocks, shares of the line and spaces add to these. (By the fields alone:
-- tbl_columns, Laws.)
use Rattle.std.specs.Prelude.{◌≡◌, ℕ, ◌<◌, ◌≤◌, ◌^◌, max, true, false, length}
use Rattle.tbl_columns.specs.declared.grid.Grid.{Grid}
use Rattle.tbl_columns.specs.Columns.{measures, needs, span_width, spans}
use Rattle.tbl_columns.specs.Held.{cell_of, column, columns}
use Rattle.tbl_columns.specs.Measured.{measured_columns, measured_table}
use Rattle.tbl_columns.specs.Narrow.{is_too_wide}

-- a column is no narrower than a field that stands in it alone
abbrev pub FieldsFitAtLast : Type 0
FieldsFitAtLast =
    (g : Grid) (n : ℕ) → is_too_wide (measured_columns g) ≡ false → n < length g.cells.items → measures (cell_of g n) ≡ true
    → spans (cell_of g n) ≡ false → (cell_of g n).first < columns g
    → needs (cell_of g n) ≤ (column (measured_table g) (cell_of g n).first).width

-- and several with the spaces between them no narrower than one that stands in these, but with expand, by
-- which spaces may be less
abbrev pub SpansFitAtLast : Type 0
SpansFitAtLast =
    (g : Grid) (n : ℕ) → is_too_wide (measured_columns g) ≡ false → g.table.looks.expand ≡ false → n < length g.cells.items
    → measures (cell_of g n) ≡ true → spans (cell_of g n) ≡ true → (cell_of g n).last < columns g → columns g < 2 ^ 64
    → needs (cell_of g n) ≤ span_width (measured_table g) (cell_of g n).first (cell_of g n).last

-- as wide as w says, and one cell at least
abbrev pub LeastFitsAtLast : Type 0
LeastFitsAtLast =
    (g : Grid) (c : ℕ) → is_too_wide (measured_columns g) ≡ false → c < columns g → (column g c).least_cells < 2 ^ 64
    → max (column g c).least_cells 1 ≤ (column (measured_table g) c).width

-- those of e are of one width, where no column is of x, and without expand
abbrev pub EqualAtLast : Type 0
EqualAtLast =
    (g : Grid) (c d : ℕ) → is_too_wide (measured_columns g) ≡ false → g.table.looks.expand ≡ false
    → ((n : ℕ) → (column g n).wide ≡ false) → c < columns g → d < columns g → (column g c).equal ≡ true → (column g d).equal ≡ true
    → (column (measured_table g) c).width ≡ (column (measured_table g) d).width
