-- Columns of x, or with expand the spaces between columns, share what is left of the line (tbl(1), "Region options" and "Column modifiers").
use Rattle.std.specs.Prelude.{ℕ, zero, suc, ◌+◌, ◌-◌, ◌/◌, max, Bool, true, false, ◌==◌, ◌&&◌, ◌||◌, not, nat_le, nat_lt, List, [], ◌∷◌, length, if◌then◌else◌}
use Rattle.tbl_columns.specs.declared.grid.Column.{Column}
use Rattle.tbl_columns.specs.declared.grid.Edges.{Edges}
use Rattle.tbl_columns.specs.declared.grid.Grid.{Grid}
use Rattle.tbl_columns.specs.declared.shares.Share.{Share}
use Rattle.tbl_columns.specs.Columns.{parts_end, product, with_width}
use Rattle.tbl_columns.specs.Frames.{left_edge, right_edge, table_end}
use Rattle.tbl_columns.specs.Held.{column, columns, no_edges}
use Rattle.tbl_table.specs.Lists.{in_turn, put}
use Rattle.tbl_table.specs.Sums.{sum}

-- how many cells a table may take
abbrev pub line_room : Grid → ℕ
line_room g = g.room.line - g.room.indent

-- ---- x: one that is wider than its share stays so

abbrev pub count_wide : ℕ → List Column → ℕ
count_wide n [] = n
count_wide n (c ∷ cs) = count_wide (sum n (if c.wide then 1 else 0)) cs

abbrev pub wide_columns : Grid → ℕ
wide_columns g = count_wide 0 g.columns.items

abbrev pub has_wide : Grid → Bool
has_wide g = nat_lt 0 (wide_columns g)

abbrev pub widths_of_wide : ℕ → List Column → ℕ
widths_of_wide n [] = n
widths_of_wide n (c ∷ cs) = widths_of_wide (sum n (if c.wide then c.width else 0)) cs

abbrev pub wide_rest : Grid → ℕ
wide_rest g = widths_of_wide (line_room g - table_end g) g.columns.items

pub record Sharing : Type 0 where
  pub grid : Grid
  pub left : ℕ
  pub rest : ℕ

abbrev pub sharing : Grid → ℕ → ℕ → Sharing
sharing g left rest = record { grid = g; left = left; rest = rest }

abbrev pub first_sharing : Grid → Sharing
first_sharing g = sharing g (wide_columns g) (wide_rest g)

-- of what is left each of so many gets as much, to the nearest cell, the lower of two
abbrev pub share_in : ℕ → ℕ → ℕ
share_in left rest = sum rest ((left - 1) / 2) / left

abbrev pub shared_column : ℕ → ℕ → Sharing → Sharing
shared_column c share s = record {
  grid = record s.grid { columns = put c (with_width (max (column s.grid c).width share) (column s.grid c)) s.grid.columns };
  left = s.left - 1;
  rest = s.rest - share;
}

abbrev pub shared_at : ℕ → Sharing → Sharing
shared_at c s = if (column s.grid c).wide && nat_lt 0 s.left then shared_column c (share_in s.left s.rest) s else s

abbrev pub shared_columns : Grid → Grid
shared_columns g =
    (in_turn (columns g) shared_at (first_sharing g)).grid

-- ---- expand: the spaces after columns but the last, and those of bars at the edges, by their parts; without any by one part each

abbrev pub all_gaps : ℕ → Grid → ℕ
all_gaps zero g = 0
all_gaps (suc n) g = sum (all_gaps n g) (column g n).gap

abbrev pub share_end : ℕ → Share → ℕ
share_end count s = parts_end s.whole count s.parts

-- bars stand in the middle
abbrev pub share_middle : ℕ → ℕ → Share → ℕ
share_middle before count s = sum (product (product s.whole 24 / max s.parts 1) (sum before count) / 2) 11 / 24

abbrev pub shared_gap : ℕ → ℕ → Share → Column → Column
shared_gap before count s c = record c {
  gap = share_end count s - share_end before s;
  bar_in = share_middle before count s - share_end before s;
}

pub record Gaps : Type 0 where
  pub grid : Grid
  pub before : ℕ

abbrev pub gaps_so_far : Grid → ℕ → Gaps
gaps_so_far g before = record { grid = g; before = before }

abbrev pub gap_parts : Bool → ℕ → Column → ℕ
gap_parts alone before c = sum before (if alone then 1 else c.gap)

abbrev pub gap_shared : Share → Bool → ℕ → Gaps → Gaps
gap_shared s alone c p = record {
  grid = record p.grid {
    columns = put c (shared_gap p.before (gap_parts alone p.before (column p.grid c)) s (column p.grid c)) p.grid.columns;
  };
  before = gap_parts alone p.before (column p.grid c);
}

abbrev pub gaps_shared : ℕ → Share → Bool → Grid → Grid
gaps_shared gaps s alone g = (in_turn gaps (gap_shared s alone) (gaps_so_far g (left_edge g))).grid

abbrev pub edges_of : Share → Grid → Edges
edges_of s g = record {
  left = share_end (left_edge g) s - left_edge g;
  right = if right_edge g == 0 then 0 else s.whole - share_end (s.parts - right_edge g) s - right_edge g;
}

abbrev pub edges_shared : Share → Grid → Grid
edges_shared s g = record g { edges = edges_of s g }

-- one column alone is as wide as the line
abbrev pub only_widened : Grid → Grid
only_widened g = record g {
  columns = put 0 (with_width (sum (column g 0).width (line_room g - table_end g)) (column g 0)) g.columns;
}

abbrev pub edge_parts : Grid → ℕ
edge_parts g = sum (left_edge g) (right_edge g)

abbrev pub all_parts : Grid → ℕ
all_parts g = sum (all_gaps (columns g - 1) g) (edge_parts g)

abbrev pub gaps_rest : Grid → ℕ
gaps_rest g = sum (line_room g) (all_parts g) - table_end g

-- nothing is left of the line
abbrev pub has_no_rest : Grid → Bool
has_no_rest g = nat_lt (line_room g) (table_end g) || (nat_lt 0 (edge_parts g) && nat_le (gaps_rest g) (all_parts g))

abbrev pub share_of_gaps : Grid → Share
share_of_gaps g = record {
  whole = if has_no_rest g then 0 else gaps_rest g;
  parts = if all_parts g == 0 then columns g - 1 else all_parts g;
}

abbrev pub some_gaps_shared : Grid → Grid
some_gaps_shared g =
    let shared = gaps_shared (columns g - 1) (share_of_gaps g) (all_parts g == 0) g in
    if has_no_rest g then shared else edges_shared (share_of_gaps g) shared

abbrev pub shared_gaps : Grid → Grid
shared_gaps g =
    if (all_parts g == 0) && (columns g - 1 == 0) then only_widened g else some_gaps_shared g
