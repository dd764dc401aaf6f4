-- What may be expected of the columns of any table, once they are measured.
use Rattle.std.specs.Prelude.{◌≡◌, ℕ, zero, suc, ◌+◌, ◌-◌, ◌<◌, ◌≤◌, ◌^◌, min, max, true, false, nat_lt, List, length}
use Rattle.tbl_blocks.specs.declared.parts.Line.{Line}
use Rattle.tbl_blocks.specs.Blocks.{some_parts}
use Rattle.tbl_blocks.specs.Filling.{lines_of}
use Rattle.tbl_columns.specs.declared.grid.Block.{Block}
use Rattle.tbl_columns.specs.declared.grid.Grid.{Grid}
use Rattle.tbl_columns.specs.Cells.{columns_over}
use Rattle.tbl_columns.specs.Columns.{measures, needs, span_width, spans, with_column, with_width}
use Rattle.tbl_columns.specs.Frames.{left_edge, right_edge, table_end}
use Rattle.tbl_columns.specs.Held.{cell_of, column, columns, text}
use Rattle.tbl_columns.specs.Measured.{by_fields, measured_columns, measured_table}
use Rattle.tbl_columns.specs.Narrow.{is_too_wide, least, least_of_cell, with_long_fields}
use Rattle.tbl_columns.specs.Shares.{line_room}
use Rattle.tbl_columns.specs.Texts.{end_of, widest_line}

-- ---- by its fields a column is no narrower than what stands in it alone, and several together no narrower than what stands in these

abbrev pub FieldsFit : Type 0
FieldsFit =
    (g : Grid) (n : ℕ) → n < length g.cells.items → measures (cell_of g n) ≡ true → spans (cell_of g n) ≡ false
    → (cell_of g n).first < columns g
    → needs (cell_of g n) ≤ (column (by_fields g) (cell_of g n).first).width

abbrev pub SpansFit : Type 0
SpansFit =
    (g : Grid) (n : ℕ) → n < length g.cells.items → measures (cell_of g n) ≡ true → spans (cell_of g n) ≡ true
    → (cell_of g n).last < columns g → columns g < 2 ^ 64
    → needs (cell_of g n) ≤ span_width (by_fields g) (cell_of g n).first (cell_of g n).last

-- as wide as w says, and one cell at least
abbrev pub LeastFits : Type 0
LeastFits =
    (g : Grid) (c : ℕ) → c < columns g → (column g c).least_cells < 2 ^ 64
    → max (column g c).least_cells 1 ≤ (column (by_fields g) c).width

-- those of e are of one width
abbrev pub EqualColumns : Type 0
EqualColumns =
    (g : Grid) (c d : ℕ) → c < columns g → d < columns g → (column g c).equal ≡ true → (column g d).equal ≡ true
    → (column (by_fields g) c).width ≡ (column (by_fields g) d).width

-- ---- a table that is no wider than the line stays as it is

abbrev pub FittingTablesStay : Type 0
FittingTablesStay = (g : Grid) → table_end (measured_columns g) ≤ line_room (measured_columns g)
    → measured_table g ≡ measured_columns g

-- ---- a table that is wider fits once it is narrowed, if the least widths of its columns do, with the spaces between them, what stands at
-- its edges and the cell of a rule: where each field stands in columns, columns are no narrower than what stands in them, and a text that is
-- set in lines is no wider than what it is filled in, if that is no less than its longest word

-- of the first columns
abbrev pub leasts : ℕ → Grid → ℕ
leasts zero g = 0
leasts (suc n) g = leasts n g + least g n

abbrev pub gaps : ℕ → Grid → ℕ
gaps zero g = 0
gaps (suc n) g = gaps n g + (column g n).gap

abbrev pub least_end : Grid → ℕ
least_end g =
    left_edge g + right_edge g + (g.edges.left + g.edges.right)
    + (leasts (columns g) g + gaps (columns g - 1) g + 1)

abbrev pub FieldsStand : Grid → Type 0
FieldsStand g =
    (n : ℕ) → n < length g.cells.items
    → ((cell_of g n).first < columns g) × ((cell_of g n).last < columns g)

abbrev pub LeastsFit : Grid → Type 0
LeastsFit g = (c : ℕ) → c < columns g → least g c ≤ (column g c).width

-- a field over several columns fits in the least widths of these
abbrev pub least_together : ℕ → Grid → ℕ → ℕ → ℕ
least_together zero g first last = 0
least_together (suc n) g first last =
    with_column (nat_lt (first + n) last) (least_together n g first last)
    (with_width (least g (first + n)) (column g (first + n)))

abbrev pub LeastSpansFit : Grid → Type 0
LeastSpansFit g =
    (n : ℕ) → n < length g.cells.items → spans (cell_of g n) ≡ true
    → least_of_cell g (cell_of g n)
    ≤ least_together (columns_over (cell_of g n).first (cell_of g n).last) g (cell_of g n).first (cell_of g n).last

abbrev pub lines_in : ℕ → Block → Grid → List Line
lines_in width b g =
    lines_of (min b.first (end_of b g)) (record { width = width; spread = b.spread })
    (some_parts (min b.first (end_of b g)) (end_of b g) g.blocks)

-- numbers end at 2^64 - 1
abbrev pub TextsFit : Grid → Type 0
TextsFit g =
    (n : ℕ)
    → ((text g n).word + 2 < 18446744073709551616)
    × ((width : ℕ) → (text g n).word ≤ width → widest_line (lines_in width (text g n) g) ≤ width)

abbrev pub IsNarrowable : Grid → Type 0
IsNarrowable g =
    (columns g ≤ 64) × (table_end g < 18446744073709551615) × FieldsStand (with_long_fields g)
    × LeastsFit (with_long_fields g) × LeastSpansFit (with_long_fields g) × TextsFit (with_long_fields g)

abbrev pub TablesFit : Type 0
TablesFit =
    (g : Grid) → is_too_wide (measured_columns g) ≡ true → IsNarrowable (measured_columns g)
    → least_end (with_long_fields (measured_columns g)) ≤ line_room (measured_columns g)
    → table_end (measured_table g) ≤ line_room (measured_columns g)
