-- Titles of three parts. (CSTR 54, section 14.)
use Rattle.std.specs.Prelude.{ℕ, ◌+◌, ◌-◌, ◌/◌, max, Bool, ◌&&◌, nat_le, nat_lt, if◌then◌else◌, List, [], ◌∷◌, ◌++◌, length, map, replicate, slice_index_or, Option, None, Some}
use Rattle.std.specs.List.{range_with_len}
use Rattle.nr_vectors.specs.Cell.{blank}
use Rattle.nr_vectors.specs.declared.cell.Cell.{Cell}
use Rattle.nr_fill.specs.declared.title.TitlePart.{TitlePart}
use Rattle.nr_fill.specs.declared.title.TitlePart.TheVariants.{Left, Centre, Right}

-- what is read of a title, and the part that is being read
pub record Title : Type 0 where
  pub left : List Cell
  pub centre : List Cell
  pub right : List Cell
  pub part : TitlePart

abbrev pub empty_title : Title
empty_title = record { left = []; centre = []; right = []; part = Left }

-- one cell more of the part that is being read
abbrev pub with_cell_in : TitlePart → Cell → Title → Title
with_cell_in Left x t = record t { left = t.left ++ x ∷ [] }
with_cell_in Centre x t = record t { centre = t.centre ++ x ∷ [] }
with_cell_in Right x t = record t { right = t.right ++ x ∷ [] }

abbrev pub with_cell : Cell → Title → Title
with_cell x t = with_cell_in t.part x t

abbrev pub next_part : TitlePart → TitlePart
next_part Left = Centre
next_part Centre = Right
next_part Right = Right

abbrev pub title_cells : Option Title → ℕ
title_cells None = 0
title_cells (Some t) = length t.left + length t.centre + length t.right

-- ---- setting

-- a part of n cells in the middle of a line, the left of the two middles
abbrev pub centre_at : ℕ → ℕ → ℕ
centre_at line n = (line - n) / 2

-- a part of n cells that ends with the line
abbrev pub right_at : ℕ → ℕ → ℕ
right_at line n = line - n

-- the column is one of n from `start` on
abbrev pub is_within : ℕ → ℕ → ℕ → Bool
is_within start n column = nat_le start column && nat_lt column (start + n)

-- the cell at a column of parts of which two begin further on: of several that stand there the last one's
abbrev pub cell_of : ℕ → ℕ → List Cell → List Cell → List Cell → ℕ → Cell
cell_of centre right ls cs rs column =
    if is_within right (length rs) column then slice_index_or rs (column - right) blank
    else (if is_within centre (length cs) column then slice_index_or cs (column - centre) blank
    else slice_index_or ls column blank)

abbrev pub cell_at : ℕ → Title → ℕ → Cell
cell_at line t column =
    cell_of (centre_at line (length t.centre)) (right_at line (length t.right)) t.left t.centre t.right column

-- how many columns the parts reach over
abbrev pub reach : ℕ → Title → ℕ
reach line t =
    max (length t.left) (max (centre_at line (length t.centre) + length t.centre)
    (right_at line (length t.right) + length t.right))

-- the title's cells
abbrev pub title_row : ℕ → Title → List Cell
title_row line t = map (cell_at line t) (range_with_len 0 (reach line t))

abbrev pub title_or_empty : Option Title → Title
title_or_empty None = empty_title
title_or_empty (Some t) = t

-- the row of a title, so far from its beginning
abbrev pub titled_row : ℕ → ℕ → Option Title → List Cell
titled_row offset line t = replicate offset blank ++ title_row line (title_or_empty t)
