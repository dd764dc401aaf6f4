-- The bytes of a page. (CSTR 54, sections 2.2 and 3.)
use Prim.Native.Char.{code}
use Rattle.std.specs.Prelude.{ℕ, ◌+◌, max, List, [], ◌∷◌, ◌++◌, length, map}
use Rattle.std.specs.List.{fold, flat_map, range_with_len}
pub use Rattle.nr_vectors.specs.Cell.{trimmed}
use Rattle.nr_vectors.specs.declared.cell.Cell.{Cell}
use Rattle.nr_page.specs.declared.faces.Faces.{Faces}
pub use Rattle.nr_page.specs.Faces.{cell_bytes}
use Rattle.nr_page.specs.Grid.{Placed, on_row, cell_at}

-- how many columns the longest of the lines has
abbrev pub column_count : List Placed → ℕ
column_count lines = fold (λ most line. max most (length line.cells)) 0 lines

-- how many rows there are, down to the lowest of the lines
abbrev pub row_count : List Placed → ℕ
row_count lines = fold (λ most line. max most (line.row + 1)) 0 lines

-- what a row shows, column by column, without trailing blanks
abbrev pub row_cells : List Placed → ℕ → List Cell
row_cells lines row = trimmed (map (cell_at lines row) (range_with_len 0 (column_count (on_row lines row))))

-- the bytes of a row, with the newline after it
abbrev pub row_bytes : Faces → List Placed → ℕ → List ℕ
row_bytes faces lines row = flat_map (cell_bytes faces) (row_cells lines row) ++ code "\n" ∷ []

-- as many rows as asked for, or down to the lowest line where that is more
abbrev pub page_bytes : Faces → ℕ → List Placed → List ℕ
page_bytes faces rows lines = flat_map (row_bytes faces lines) (range_with_len 0 (max rows (row_count lines)))
