-- The widths of columns, in cells (Lesk, "Additional command lines" and "Usage"; tbl(1), "Column modifiers"): a column is as wide as the
-- widest field that stands in it alone, as w says, and one cell at least; numbers are aligned, so it has room for the most before their
-- place and the most after it; fields of a stand two cells further in at least. What a field over several columns lacks is dealt out to
-- them. Columns of e are as wide as the widest of them.
use Rattle.std.specs.Prelude.{ℕ, zero, suc, ◌+◌, ◌-◌, ◌*◌, ◌/◌, min, max, Bool, true, false, ◌==◌, ◌&&◌, ◌||◌, not, nat_le, nat_lt, List, [], ◌∷◌, length, Option, None, Some, ℤ, pos, negsuc, if◌then◌else◌}
use Rattle.nr_units.specs.declared.units.Scale.TheVariants.{En}
use Rattle.tbl_blocks.specs.Extents.{extent_of}
use Rattle.tbl_columns.specs.declared.grid.Cell.{Cell}
use Rattle.tbl_columns.specs.declared.grid.Column.{Column}
use Rattle.tbl_columns.specs.declared.grid.Grid.{Grid}
use Rattle.tbl_columns.specs.Cells.{columns_over}
use Rattle.tbl_columns.specs.Counted.{as_wide, with_alpha, with_number, with_text}
use Rattle.tbl_columns.specs.Held.{cell_of, column, columns, fresh}
use Rattle.tbl_columns.specs.Registers.{number_in}
use Rattle.tbl_table.specs.declared.table.Key.{Key}
use Rattle.tbl_table.specs.declared.table.Kind.{Kind}
use Rattle.tbl_table.specs.declared.table.Kind.TheVariants as kinds
use Rattle.tbl_table.specs.declared.table.Span.{Span}
use Rattle.tbl_table.specs.Held as tables
use Rattle.tbl_table.specs.Held.{has_text, is_text, key, line, none_of, text_of}
use Rattle.tbl_table.specs.Lists.{added, in_turn, put}
use Rattle.tbl_table.specs.Sums.{sum}
use Rattle.tbl_table.specs.Table.{width}

-- ---- what formats say of a column

-- 24 units are a cell; 1,000,000 cells at most
abbrev pub cells_in_units : ℤ → ℕ
cells_in_units (pos units) = min ((units + 12) / 24) 1000000
cells_in_units (negsuc units) = 0

abbrev pub in_cells : Option ℤ → Option ℕ
in_cells None = None
in_cells (Some value) = Some (cells_in_units value)

-- a width, where it shows
abbrev pub cells_in : Grid → Span → Option ℕ
cells_in g s = in_cells (number_in g (text_of g.table s) En)

abbrev pub greater_gap : Option ℕ → Option ℕ → Option ℕ
greater_gap None other = other
greater_gap (Some n) None = Some n
greater_gap (Some n) (Some m) = Some (max n m)

abbrev pub letter : Grid → ℕ → ℕ → Key
letter g c n = key g.table (line g.table n) c

-- the greatest that the first lines give
abbrev pub gap_given : ℕ → Grid → ℕ → Option ℕ
gap_given zero g c = None
gap_given (suc n) g c = greater_gap (gap_given n g c) (letter g c n).gap

abbrev pub or_other : {A : Type 0} → Option A → Option A → Option A
or_other None other = other
or_other (Some x) other = Some x

abbrev pub with_key : Column → Key → Column
with_key c k =
    record c { least = or_other k.width c.least; equal = c.equal || k.equal; wide = c.wide || k.wide }

-- what the first lines say
abbrev pub keyed : ℕ → Grid → ℕ → Column
keyed zero g c = fresh
keyed (suc n) g c = with_key (keyed n g c) (letter g c n)

abbrev pub or_nothing : Option ℕ → ℕ
or_nothing None = 0
or_nothing (Some n) = n

abbrev pub least_in : Grid → Option Span → ℕ
least_in g None = 0
least_in g (Some s) = or_nothing (cells_in g s)

abbrev pub or_gap : Option ℕ → ℕ → ℕ
or_gap None gap = gap
or_gap (Some n) gap = n

abbrev pub with_gap : Grid → Option ℕ → Column → Column
with_gap g gap c =
    record c { gap = or_gap gap c.gap; bar_in = or_gap gap c.gap / 2; least_cells = least_in g c.least }

abbrev pub column_of : Grid → ℕ → Column
column_of g c = with_gap g (gap_given (length g.table.lines.items) g c) (keyed (length g.table.lines.items) g c)

abbrev pub read_column : ℕ → Grid → Grid
read_column c g = record g { columns = added (column_of g c) g.columns }

abbrev pub columns_read : Grid → Grid
columns_read g = in_turn (width g.table) read_column (record g { columns = none_of g.columns })

-- ---- fields

-- it stands in more than one column
abbrev pub spans : Cell → Bool
spans f = nat_lt f.first f.last

abbrev pub is_alpha_kind : Kind → Bool
is_alpha_kind kinds.Alpha = true
is_alpha_kind kind = false

abbrev pub is_given : {A : Type 0} → Option A → Bool
is_given None = false
is_given (Some x) = true

-- it is aligned with others
abbrev pub is_number : Cell → Bool
is_number f = tables.is_number f.key.kind && is_text f.field.form && is_given f.field.prefix

abbrev pub is_alpha : Cell → Bool
is_alpha f = is_alpha_kind f.key.kind

-- what of a number stands before the place where it is aligned, and how many cells that takes
abbrev pub prefix_span : Cell → Span
prefix_span f =
    record { start = f.field.span.start; «end» = min (sum f.field.span.start (or_nothing f.field.prefix)) f.field.span.«end» }

abbrev pub prefix_cells : Grid → Cell → ℕ
prefix_cells g f = (extent_of (text_of g.table (prefix_span f)) g.blocks.strings.items).cells

-- what its column has more than it, and what it takes of its columns
abbrev pub beside : Cell → ℕ
beside f = if is_alpha f then 2 else 0

abbrev pub needs : Cell → ℕ
needs f = sum f.width (beside f)

-- ---- columns by their fields: those of z count for nothing, nor does the text of a block

abbrev pub measures : Cell → Bool
measures f = has_text f.field && not f.key.zero && not (is_given f.block)

abbrev pub with_field : Grid → Cell → Column → Column
with_field g f c =
    if is_alpha f then with_alpha f.width c else
    if is_number f then with_number f.width (prefix_cells g f) c else with_text f.width c

abbrev pub measured : Cell → Grid → Grid
measured f g = record g { columns = put f.first (with_field g f (column g f.first)) g.columns }

abbrev pub measured_cell : ℕ → Grid → Grid
measured_cell n g =
    if measures (cell_of g n) && not (spans (cell_of g n)) then measured (cell_of g n) g else g

abbrev pub settled_column : ℕ → Grid → Grid
settled_column c g = record g { columns = put c (as_wide (column g c)) g.columns }

abbrev pub settled_columns : Grid → Grid
settled_columns g = in_turn (columns g) settled_column g

abbrev pub measured_cells : Grid → Grid
measured_cells g = in_turn (length g.cells.items) measured_cell g

abbrev pub measured_fields : Grid → Grid
measured_fields g = settled_columns (measured_cells g)

-- ---- a greater width is dealt out to columns in parts of whole units, of which a cell has 24: the first parts end at the nearest cell,
-- the lower of two, and the last takes the rest

-- of the first of these columns, with the spaces after them, but for that after the last
abbrev pub with_column : Bool → ℕ → Column → ℕ
with_column inner width c = if inner then sum (sum width c.width) c.gap else sum width c.width

abbrev pub together : ℕ → Grid → ℕ → ℕ → ℕ
together zero g first last = 0
together (suc n) g first last =
    with_column (nat_lt (first + n) last) (together n g first last) (column g (first + n))

abbrev pub span_width : Grid → ℕ → ℕ → ℕ
span_width g first last = together (columns_over first last) g first last

pub record Dealing : Type 0 where
  pub grid : Grid
  pub rest : ℕ

abbrev pub dealing : Grid → ℕ → Dealing
dealing g rest = record { grid = g; rest = rest }

abbrev pub product : ℕ → ℕ → ℕ
product a b = min (a * b) 18446744073709551615

abbrev pub parts_end : ℕ → ℕ → ℕ → ℕ
parts_end whole count all = sum (product (product whole 24 / max all 1) count) 11 / 24

-- what is left of the whole that all columns get, for so many of them
abbrev pub left_for : ℕ → ℕ → ℕ → ℕ
left_for whole all left = if left == 0 then 0 else whole - parts_end whole (all - left) all

abbrev pub wider : ℕ → Column → Column
wider more c = record c { width = sum c.width more }

abbrev pub dealt_to : ℕ → ℕ → Dealing → Dealing
dealt_to c more d =
    dealing (record d.grid { columns = put c (wider more (column d.grid c)) d.grid.columns })
    (d.rest - more)

abbrev pub dealt_at : ℕ → ℕ → ℕ → ℕ → Dealing → Dealing
dealt_at whole all last c d = dealt_to c (d.rest - left_for whole all (last - c)) d

abbrev pub dealt : ℕ → ℕ → ℕ → Grid → Dealing
dealt first last whole g =
    in_turn (columns_over first last) (λ n. dealt_at whole (columns_over first last) last (first + n))
    (dealing g whole)

abbrev pub widened : ℕ → ℕ → ℕ → Grid → Grid
widened first last width g = (dealt first last (width - span_width g first last) g).grid

abbrev pub spanned_cell : ℕ → Grid → Grid
spanned_cell n g =
    let f = cell_of g n in
    if measures f && spans f then widened f.first f.last (needs f) g else g

abbrev pub measured_spans : Grid → Grid
measured_spans g = in_turn (length g.cells.items) spanned_cell g

-- ---- columns of e

abbrev pub widest_of : List Column → ℕ
widest_of [] = 0
widest_of (c ∷ cs) = if c.equal then max c.width (widest_of cs) else widest_of cs

abbrev pub widest_equal : Grid → ℕ
widest_equal g = widest_of g.columns.items

abbrev pub with_width : ℕ → Column → Column
with_width width c = record c { width = width }

abbrev pub equal_column : ℕ → ℕ → Grid → Grid
equal_column width c g =
    if (column g c).equal then record g { columns = put c (with_width width (column g c)) g.columns } else g

abbrev pub made_equal : Grid → Grid
made_equal g = in_turn (columns g) (equal_column (widest_equal g)) g
