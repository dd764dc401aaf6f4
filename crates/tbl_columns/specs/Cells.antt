-- Which field stands in which columns and rows (Lesk, "Format", s and ^; tbl(1), "Column classifiers"). Each column of each row is
-- covered by one field: that which begins there, the one to its left over which s goes on, or the one above that goes on downward.
use Rattle.std.specs.Prelude.{ℕ, zero, suc, ◌+◌, ◌-◌, ◌*◌, min, Bool, true, false, ◌==◌, ◌&&◌, ◌||◌, not, nat_lt, length, if◌then◌else◌}
use Rattle.tbl_blocks.specs.declared.parts.Extent.{Extent}
use Rattle.tbl_blocks.specs.Extents.{extent_of}
use Rattle.tbl_columns.specs.declared.grid.Cell.{Cell}
use Rattle.tbl_columns.specs.declared.grid.Grid.{Grid}
use Rattle.tbl_columns.specs.declared.grid.Placed.{Placed}
use Rattle.tbl_columns.specs.Held.{cell_number, cell_of, columns, forgotten_cells, no_cell, number_place, placed}
use Rattle.tbl_table.specs.declared.table.Field.{Field}
use Rattle.tbl_table.specs.declared.table.Form.{Form}
use Rattle.tbl_table.specs.declared.table.Form.TheVariants as forms
use Rattle.tbl_table.specs.declared.table.Key.{Key}
use Rattle.tbl_table.specs.declared.table.Kind.{Kind}
use Rattle.tbl_table.specs.declared.table.Kind.TheVariants as kinds
use Rattle.tbl_table.specs.declared.table.Line.{Line}
use Rattle.tbl_table.specs.declared.table.Row.{Row}
use Rattle.tbl_table.specs.Held.{field, has_text, is_ruling, is_text, key, line, no_field, row, text_of}
use Rattle.tbl_table.specs.Lists.{added, added_each, in_turn, put}
use Rattle.tbl_table.specs.Sums.{sum}

-- how many columns there are from one to another, and changes to them in turn
abbrev pub columns_over : ℕ → ℕ → ℕ
columns_over first last = sum last 1 - first

abbrev pub over : ℕ → ℕ → (ℕ → Grid → Grid) → Grid → Grid
over first last change g = in_turn (columns_over first last) (λ n. change (first + n)) g

abbrev pub is_across : Kind → Bool
is_across kinds.Across = true
is_across kind = false

abbrev pub is_down : Kind → Bool
is_down kinds.Down = true
is_down kind = false

abbrev pub is_above : Form → Bool
is_above forms.Above = true
is_above form = false

-- \^, or ^ over an empty field: the field above goes on
abbrev pub goes_on : Key → Field → Bool
goes_on k f = is_above f.form || (is_text f.form && is_down k.kind && not (has_text f))

-- _ or = over an empty field is a rule
abbrev pub is_ruled : Key → Field → Bool
is_ruled k f = is_text f.form && not (has_text f) && is_ruling k.kind

-- the last column of a field that begins in this one, so many before the last of the table: s takes it further
abbrev pub goes_over : ℕ → Grid → Line → ℕ → ℕ
goes_over zero g l c = c
goes_over (suc n) g l c = if is_across (key g.table l (c + 1)).kind then goes_over n g l (c + 1) else c

abbrev pub last_column : Grid → Line → ℕ → ℕ
last_column g l first = goes_over (columns g - (first + 1)) g l first

-- ---- the field above goes on downward

abbrev pub gone_on_at : ℕ → ℕ → Grid → Grid
gone_on_at r c g = record g { numbers = added (cell_number g (r - 1) c) g.numbers }

abbrev pub gone_on : ℕ → ℕ → ℕ → Grid → Grid
gone_on r first last g = over first last (gone_on_at r) g

-- ---- a field of a row

-- how many cells it takes in one line
abbrev pub no_extent : Extent
no_extent = record { cells = 0; sure = true }

abbrev pub field_extent : Grid → Field → Extent
field_extent g f = if is_text f.form then extent_of (text_of g.table f.span) g.blocks.strings.items else no_extent

abbrev pub placed_form : Key → Field → Field
placed_form k f = record f { form = if is_ruled k f then forms.Rule else f.form }

abbrev pub new_cell : Grid → ℕ → Key → Field → ℕ → ℕ → Cell
new_cell g r k f first last =
    record no_cell {
      field = placed_form k f;
      key = k;
      first = first;
      last = last;
      top = r;
      bottom = r;
      width = (field_extent g f).cells;
      sure = (field_extent g f).sure;
    }

abbrev pub placed_field : ℕ → Key → Field → ℕ → ℕ → Grid → Grid
placed_field r k f first last g = record g {
  cells = added (new_cell g r k f first last) g.cells;
  numbers = added_each (columns_over first last) (length g.cells.items) g.numbers;
}

-- the field that is given, or none
abbrev pub field_given : Grid → Row → ℕ → Field
field_given g r given = if nat_lt given r.«end» then field g.table given else no_field

-- in a column it stands, or the one above goes on
abbrev pub placed_in : ℕ → Key → Field → ℕ → ℕ → Grid → Grid
placed_in r k f first last g =
    if nat_lt 0 r && goes_on k f then gone_on r first last g else placed_field r k f first last g

abbrev pub last_of : Grid → Row → ℕ → ℕ
last_of g r c = last_column g (line g.table r.line) c

abbrev pub placed_next : ℕ → Row → ℕ → ℕ → ℕ → Grid → Grid
placed_next n r given c last g = placed_in n (key g.table (line g.table r.line) c) (field_given g r given) c last g

-- ---- a row: the next field that is given stands in the next column that no field to the left covers

pub record Placing : Type 0 where
  pub grid : Grid
  pub given : ℕ
  pub next : ℕ

abbrev pub placed_at : ℕ → Row → ℕ → Placing → Placing
placed_at n r c p = if nat_lt c p.next then p else record {
  grid = placed_next n r p.given c (last_of p.grid r c) p.grid;
  given = min (sum p.given 1) r.«end»;
  next = sum (last_of p.grid r c) 1;
}

abbrev pub first_placing : Row → Grid → Placing
first_placing r g = record { grid = g; given = r.first; next = 0 }

-- in the first columns
abbrev pub placing : ℕ → ℕ → Row → Grid → Placing
placing c n r g = in_turn c (placed_at n r) (first_placing r g)

-- ---- a field goes on over a row below in all of its columns: where it would in some of them alone it ends above, and an empty field
-- stands there

-- in so many columns from one on
abbrev pub stands_over : ℕ → Grid → ℕ → ℕ → ℕ → Bool
stands_over zero g r f c = true
stands_over (suc n) g r f c = (cell_number g r c == f) && stands_over n g r f (c + 1)

abbrev pub is_whole : Grid → ℕ → ℕ → Bool
is_whole g r f = stands_over (columns_over (cell_of g f).first (cell_of g f).last) g r f (cell_of g f).first

abbrev pub gone_down : ℕ → ℕ → Grid → Grid
gone_down r f g = record g { cells = put f (record (cell_of g f) { bottom = r }) g.cells }

abbrev pub ended_above : ℕ → ℕ → Grid → Grid
ended_above r c g = record g {
  cells = added (new_cell g r (key g.table (line g.table (row g.table r).line) c) no_field c c) g.cells;
  numbers = put (number_place g r c) (length g.cells.items) g.numbers;
}

abbrev pub went_on_in : ℕ → ℕ → ℕ → Grid → Grid
went_on_in r c f g = if is_whole g r f then gone_down r f g else ended_above r c g

-- fields from above have numbers below those of the row's own, of which this is the first
abbrev pub went_on_at : ℕ → ℕ → ℕ → Grid → Grid
went_on_at r cells c g = if nat_lt (cell_number g r c) cells then went_on_in r c (cell_number g r c) g else g

abbrev pub went_on : ℕ → ℕ → Grid → Grid
went_on r cells g = in_turn (columns g) (went_on_at r cells) g

-- a row in which no field is its own takes no room
abbrev pub place_of : ℕ → ℕ → ℕ → Grid → Placed
place_of n cells beyond g = record {
  beyond = beyond;
  cells = cells;
  cells_end = length g.cells.items;
  own = nat_lt cells (length g.cells.items);
  last_own = n;
}

abbrev pub row_placed : ℕ → ℕ → ℕ → Grid → Grid
row_placed n cells beyond g = record g { placed = added (place_of n cells beyond g) g.placed }

abbrev pub row_settled : ℕ → ℕ → Placing → Grid
row_settled n cells p = row_placed n cells p.given (went_on n cells p.grid)

abbrev pub placed_row : ℕ → Grid → Grid
placed_row n g = row_settled n (length g.cells.items) (placing (columns g) n (row g.table n) g)

-- ---- the last row that takes room, from each row upward

pub record Settling : Type 0 where
  pub grid : Grid
  pub last_own : ℕ

abbrev pub settling : Grid → ℕ → Settling
settling g own = record { grid = g; last_own = own }

abbrev pub row_own : ℕ → ℕ → Grid → Settling
row_own n own g = settling (record g { placed = put n (record (placed g n) { last_own = own }) g.placed }) own

abbrev pub settled_row : ℕ → Settling → Settling
settled_row n s = row_own n (if (placed s.grid n).own then n else s.last_own) s.grid

abbrev pub settled_rows : Grid → Grid
settled_rows g = (in_turn (length g.placed.items) settled_row (settling g 0)).grid

-- ---- fields end in rows that take room

abbrev pub ended_in : Grid → Cell → Cell
ended_in g f = record f { falls = nat_lt f.top f.bottom; bottom = (placed g f.bottom).last_own }

abbrev pub settled_cell : ℕ → Grid → Grid
settled_cell n g = record g { cells = put n (ended_in g (cell_of g n)) g.cells }

abbrev pub settled_cells : Grid → Grid
settled_cells g = in_turn (length g.cells.items) settled_cell g

-- ---- a table's fields in their places

abbrev pub placed_rows : Grid → Grid
placed_rows g = in_turn (length g.table.rows.items) placed_row g

abbrev pub placed_cells : Grid → Grid
placed_cells g = settled_cells (settled_rows (placed_rows (forgotten_cells g)))
