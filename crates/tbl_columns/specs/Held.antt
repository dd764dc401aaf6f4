-- A table with its fields in columns, as it is held: cells by number, and for each column of each row the number of the cell that stands
-- there. Lists are read by number; what lies beyond them is empty.
use Rattle.std.specs.Prelude.{ℕ, ◌+◌, ◌*◌, ◌/◌, min, Bool, true, false, List, [], length, get_or, Option, None, Some}
use Rattle.nr_vectors.specs.Items.{Items}
use Rattle.tbl_blocks.specs.Blocks as blocks
use Rattle.tbl_blocks.specs.Blocks.{cleared, first_blocks}
use Rattle.tbl_columns.specs.declared.grid.Block.{Block}
use Rattle.tbl_columns.specs.declared.grid.Cell.{Cell}
use Rattle.tbl_columns.specs.declared.grid.Column.{Column}
use Rattle.tbl_columns.specs.declared.grid.Edges.{Edges}
use Rattle.tbl_columns.specs.declared.grid.Grid.{Grid}
use Rattle.tbl_columns.specs.declared.grid.Placed.{Placed}
use Rattle.tbl_columns.specs.declared.grid.Room.{Room}
use Rattle.tbl_table.specs.declared.signs.Signs.{Signs}
use Rattle.tbl_table.specs.Held as held
use Rattle.tbl_table.specs.Sums.{sum}
use Rattle.tbl_table.specs.Table as tables

-- ---- what stands for what is not there

abbrev pub no_cell : Cell
no_cell = record {
  field = held.no_field;
  key = held.usual;
  first = 0;
  last = 0;
  top = 0;
  bottom = 0;
  falls = false;
  width = 0;
  sure = true;
  block = None;
}

abbrev pub no_block : Block
no_block = record {
  first = 0;
  «end» = 0;
  line = 0;
  line_end = 0;
  rows = 0;
  word = 0;
  spread = false;
  defines = false;
}

abbrev pub no_place : Placed
no_place = record { beyond = 0; cells = 0; cells_end = 0; own = true; last_own = 0 }

-- a space of 3 cells after it, in the middle of which bars stand
abbrev pub fresh : Column
fresh = record {
  width = 0;
  least = None;
  least_cells = 0;
  alpha = 0;
  alphas = false;
  prefix = 0;
  back = 0;
  numbers = false;
  gap = 3;
  bar_in = 1;
  equal = false;
  wide = false;
  left = 0;
  right = 0;
  bar = 0;
}

abbrev pub no_edges : Edges
no_edges = record { left = 0; right = 0 }

-- ---- by number

abbrev pub cell_of : Grid → ℕ → Cell
cell_of g n = get_or g.cells.items n no_cell

abbrev pub column : Grid → ℕ → Column
column g n = get_or g.columns.items n fresh

abbrev pub columns : Grid → ℕ
columns g = length g.columns.items

abbrev pub placed : Grid → ℕ → Placed
placed g r = get_or g.placed.items r no_place

abbrev pub text : Grid → ℕ → Block
text g n = get_or g.texts.items n no_block

-- a field's block, if it is set in lines, and how many lines of the page it takes
abbrev pub block_in : Grid → Option ℕ → Option Block
block_in g None = None
block_in g (Some n) = Some (text g n)

abbrev pub block_of : Grid → Cell → Option Block
block_of g f = block_in g f.block

abbrev pub rows_in : Option Block → ℕ
rows_in None = 1
rows_in (Some b) = b.rows

abbrev pub height_of : Grid → Cell → ℕ
height_of g f = rows_in (block_of g f)

-- the field that stands in a column of a row
abbrev pub number_place : Grid → ℕ → ℕ → ℕ
number_place g r c = sum (min (r * columns g) 18446744073709551615) c

abbrev pub cell_number : Grid → ℕ → ℕ → ℕ
cell_number g r c = get_or g.numbers.items (number_place g r c) 0

abbrev pub cell : Grid → ℕ → ℕ → Cell
cell g r c = cell_of g (cell_number g r c)

-- ---- before all, where a table begins, where its rows went out

abbrev pub cell_room : ℕ → ℕ
cell_room most = min (tables.row_room most * 64) 18446744073709551615

abbrev pub first_grid : Signs → Room → ℕ → ℕ → Grid
first_grid signs room most row = record {
  table = tables.first_table signs most row;
  blocks = first_blocks (tables.text_room most row) (tables.text_room most row) 64;
  cells = tables.room_for (cell_room most);
  numbers = tables.room_for (cell_room most);
  placed = tables.room_for (tables.row_room most);
  columns = tables.room_for 64;
  texts = tables.room_for (cell_room most);
  registers = tables.room_for 64;
  room = room;
  spreads = true;
  narrowed = false;
  edges = no_edges;
}

-- the elements of all its lists
abbrev pub memory_of : ℕ → ℕ → ℕ
memory_of most row =
    tables.memory_of most row + (2 * tables.text_room most row + 64)
    + (3 * cell_room most + tables.row_room most + 128)

-- fields have no places
abbrev pub forgotten_cells : Grid → Grid
forgotten_cells g = record g {
  blocks = cleared g.blocks;
  cells = held.none_of g.cells;
  numbers = held.none_of g.numbers;
  placed = held.none_of g.placed;
  texts = held.none_of g.texts;
}

abbrev pub forgotten : Grid → Grid
forgotten g = forgotten_cells (record g { table = tables.forgotten g.table })

-- a table begins: nothing is held of another
abbrev pub begun : Grid → Grid
begun g = forgotten_cells (record g {
  table = held.emptied g.table;
  columns = held.none_of g.columns;
  narrowed = false;
  edges = no_edges;
})

-- a table that holds nothing, in the same room
abbrev pub no_room : Room
no_room = record { line = 0; indent = 0; fits = false }

abbrev pub emptied : Grid → Grid
emptied g = record {
  table = held.emptied g.table;
  blocks = blocks.emptied g.blocks;
  cells = held.none_of g.cells;
  numbers = held.none_of g.numbers;
  placed = held.none_of g.placed;
  columns = held.none_of g.columns;
  texts = held.none_of g.texts;
  registers = held.none_of g.registers;
  room = no_room;
  spreads = true;
  narrowed = false;
  edges = no_edges;
}
