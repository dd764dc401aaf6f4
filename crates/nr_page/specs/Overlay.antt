-- Cells laid over others, and cells without the blanks after them.
use Rattle.std.specs.Prelude.{◌≡◌, ℕ, ◌-◌, ◌<◌, ◌≤◌, List, [], ◌∷◌, slice_index_or, true, false, not, if◌then◌else◌}
use Rattle.std.specs.List.{flat_map, range_with_len}
use Rattle.nr_vectors.specs.declared.cell.Cell.{Cell}
use Rattle.nr_page.specs.Grid.{Placed, blank, is_blank}
use Rattle.nr_page.specs.PageBytes.{row_bytes}
use Rattle.nr_page.specs.declared.faces.Faces.{Faces}

-- what shows of two cells at one place: the upper one, unless it is blank
abbrev pub covered : Cell → Cell → Cell
covered below above = if not (is_blank above) then above else below

-- cells with others laid over them
abbrev pub overlaid : List Cell → List Cell → List Cell
overlaid [] above = above
overlaid (cell ∷ below) [] = cell ∷ below
overlaid (cell ∷ below) (over ∷ above) = covered cell over ∷ overlaid below above

-- the cell at a place, or a blank after the last
abbrev pub cell_or_blank : List Cell → ℕ → Cell
cell_or_blank cells column = slice_index_or cells column blank

-- the last of the cells that is not blank stands before this place
pub record IsTrimmed (cells : List Cell) (width : ℕ) : Type 0 where
  pub blanks : (column : ℕ) → width ≤ column → is_blank (cell_or_blank cells column) ≡ true
  pub last : 0 < width → is_blank (cell_or_blank cells (width - 1)) ≡ false

-- the bytes of a row on which these cells alone were placed
abbrev pub line_bytes : Faces → List Cell → List ℕ
line_bytes faces cells = row_bytes faces ((record { row = 0; cells = cells }) ∷ []) 0

-- the bytes of so many rows, from one on
abbrev pub rows_bytes : Faces → List Placed → ℕ → ℕ → List ℕ
rows_bytes faces lines row count = flat_map (row_bytes faces lines) (range_with_len row count)
