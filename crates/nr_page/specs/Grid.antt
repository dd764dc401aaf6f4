-- The page grid: lines placed on rows, and the cell that shows at each place. (CSTR 54, section 3.)
use Rattle.std.specs.Prelude.{ℕ, ◌+◌, List, length, map, slice_index_or, not, ◌==◌, None, unwrap_or}
use Rattle.std.specs.List.{filter, last_or, sum_by}
pub use Rattle.nr_vectors.specs.Cell.{blank, is_blank}
use Rattle.nr_vectors.specs.declared.cell.Cell.{Cell}

-- a line placed on a page: its row, counted from 0 at the top, and its cells, from column 0 on. Each line ends at 40u
-- or below, so none is above row 0.
pub record Placed : Type 0 where
  pub row : ℕ
  pub cells : List Cell

-- the lines placed on a row, in the order of their placing
abbrev pub on_row : List Placed → ℕ → List Placed
on_row lines row = filter (λ line. line.row == row) lines

-- what each of the lines has at a column: a blank where it is too short
abbrev pub cells_at : List Placed → ℕ → List Cell
cells_at lines column = map (λ line. slice_index_or line.cells column blank) lines

-- the last of the cells that is not blank, else blank
abbrev pub last_shown : List Cell → Cell
last_shown cells = unwrap_or (last_or None (filter (λ cell. not (is_blank cell)) cells)) blank

-- the cell that shows at a row and column: the last one placed there that is not blank, else blank
abbrev pub cell_at : List Placed → ℕ → ℕ → Cell
cell_at lines row column = last_shown (cells_at (on_row lines row) column)

-- what a page is charged: 1 and its cells for each line placed
abbrev pub page_charge : List Placed → ℕ
page_charge lines = sum_by (λ line. 1 + length line.cells) lines
