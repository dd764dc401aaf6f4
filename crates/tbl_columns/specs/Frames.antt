-- Bars, rules and frames (Lesk, "Global options" and "Additional features"; tbl(1), "Region options"): what meets where. A bar stands before a
-- column where the formats have one, or a frame; none stands inside a field that goes on over both columns.
use Rattle.std.specs.Prelude.{ℕ, zero, suc, ◌+◌, ◌-◌, Bool, true, false, ◌==◌, ◌&&◌, ◌||◌, not, nat_le, nat_lt, Option, None, Some, max, min, length, if◌then◌else◌}
use Rattle.tbl_columns.specs.declared.frames.Near.{Near}
use Rattle.tbl_columns.specs.declared.grid.Column.{Column}
use Rattle.tbl_columns.specs.declared.grid.Grid.{Grid}
use Rattle.tbl_columns.specs.Cells.{is_across}
use Rattle.tbl_columns.specs.Held.{cell, cell_number, column, columns}
use Rattle.tbl_table.specs.declared.table.Item.{Item}
use Rattle.tbl_table.specs.declared.table.Item.TheVariants as items
use Rattle.tbl_table.specs.Held.{bars_in, is_all, is_boxed, is_rule, item, key, line, row, some_print}
use Rattle.tbl_table.specs.Lists.{in_turn, put}
use Rattle.tbl_table.specs.Sums.{sum}

-- one field stands in both columns
abbrev pub is_inside : Grid → ℕ → ℕ → Bool
is_inside g r c =
    is_across (key g.table (line g.table (row g.table r).line) c).kind || (cell_number g r c == cell_number g r (c - 1))

abbrev pub count : Bool → ℕ
count true = 1
count false = 0

-- a box has bars at its edges, allbox between columns too
abbrev pub framing : Grid → Bool → ℕ
framing g inside = count (if inside then is_all g.table.looks.frame else is_boxed g.table)

abbrev pub or_else : ℕ → ℕ → ℕ
or_else n other = if nat_lt 0 n then n else other

abbrev pub is_between : Grid → ℕ → Bool
is_between g c = nat_lt 0 c && nat_lt c (columns g)

-- at an edge one
abbrev pub edged : Bool → ℕ → ℕ
edged between n = if between then n else min n 1

abbrev pub bars_of : Grid → ℕ → ℕ → ℕ
bars_of g r c =
    if is_between g c && is_inside g r c then 0 else
    or_else (edged (is_between g c) (bars_in g.table (line g.table (row g.table r).line) c)) (framing g (is_between g c))

-- before a column of a row, or after the last one
abbrev pub bars_at : Grid → Option ℕ → ℕ → ℕ
bars_at g None c = 0
bars_at g (Some r) c = bars_of g r c

-- ---- bars begin beside the row above, where no rule stands between

-- a row, if it has another line of formats than this, and fields that print something
abbrev pub other_row : Grid → ℕ → ℕ → Option ℕ
other_row g line next =
    let r = row g.table next in
    if not (r.line == line) && some_print (r.«end» - r.first) g.table r.first then Some next else None

abbrev pub row_in : Grid → ℕ → Item → Option ℕ
row_in g line (items.Row next) = other_row g line next
row_in g line i = None

-- the row right below one
abbrev pub row_below : Grid → ℕ → Option ℕ
row_below g r =
    if nat_lt (length g.table.lines.items) 2 || is_all g.table.looks.frame then None
    else row_in g (row g.table r).line (item g.table (sum (row g.table r).item 1))

abbrev pub is_ruled : Grid → ℕ → ℕ → Bool
is_ruled g r c = ((cell g r c).top == r) && is_rule (cell g r c).field.form

-- not in a field over several columns, but in a rule
abbrev pub shows_below : Grid → ℕ → ℕ → Bool
shows_below g r c = not (is_between g c) || is_ruled g r c || not (is_inside g r c)

abbrev pub from_below : Grid → ℕ → ℕ → ℕ → ℕ
from_below g r c below = if shows_below g r c then bars_of g below c else 0

abbrev pub from_row : Grid → ℕ → ℕ → Option ℕ → ℕ
from_row g r c None = 0
from_row g r c (Some below) = from_below g r c below

-- before a column
abbrev pub was_ruled : Grid → ℕ → ℕ → Bool
was_ruled g r c = nat_lt 0 c && is_ruled g r (c - 1)

-- a rule of a field meets the bars of the row right above one
abbrev pub rules_join : Grid → ℕ → ℕ → Bool
rules_join g r c = was_ruled g r c || (nat_lt c (columns g) && is_ruled g r c)

abbrev pub last_in : Grid → ℕ → Item → Option ℕ
last_in g line (items.Row last) = if (row g.table last).line == line then None else Some last
last_in g line i = None

abbrev pub row_above : Grid → ℕ → Option ℕ
row_above g r =
    if ((row g.table r).item == 0) || nat_lt (length g.table.lines.items) 2 || is_all g.table.looks.frame then None
    else last_in g (row g.table r).line (item g.table ((row g.table r).item - 1))

abbrev pub near : Grid → ℕ → Near
near g r = record { line = line g.table (row g.table r).line; above = row_above g r; below = row_below g r }

abbrev pub from_above : Grid → ℕ → ℕ → ℕ → ℕ
from_above g r c above = if rules_join g r c then bars_of g above c else 0

abbrev pub from_last : Grid → ℕ → ℕ → Option ℕ → ℕ
from_last g r c None = 0
from_last g r c (Some above) = from_above g r c above

abbrev pub bars_beside : Grid → ℕ → ℕ → ℕ
bars_beside g r c = or_else (from_row g r c (near g r).below) (from_last g r c (near g r).above)

-- its own bars, or those of the rows beside it
abbrev pub bars_seen : Grid → ℕ → ℕ → ℕ
bars_seen g r c = or_else (bars_of g r c) (bars_beside g r c)

-- between two rows: a field of a row above goes on over the column of the row below
abbrev pub is_covered : Grid → Option ℕ → Option ℕ → ℕ → Bool
is_covered g None below c = false
is_covered g (Some above) None c = false
is_covered g (Some above) (Some below) c = not (above == below) && nat_lt (cell g below c).top below

-- a box has a bar at both edges
abbrev pub framing_at : Grid → ℕ → ℕ
framing_at g c = count (((c == 0) || (c == columns g)) && is_boxed g.table)

-- how many bars meet a rule before a column
abbrev pub meeting : Grid → Option ℕ → Option ℕ → ℕ → ℕ
meeting g above below c =
    max (max (bars_at g above c) (bars_at g below c)) (framing_at g c)

-- the most bars that a line of formats has before a column
abbrev pub most_bars_in : ℕ → Grid → ℕ → ℕ
most_bars_in zero g c = 0
most_bars_in (suc n) g c = max (bars_in g.table (line g.table n) c) (most_bars_in n g c)

abbrev pub most_bars : Grid → ℕ → ℕ
most_bars g c = most_bars_in (length g.table.lines.items) g c

-- what stands at the edges of the table: a bar
abbrev pub left_edge : Grid → ℕ
left_edge g = min (max (most_bars g 0) (framing g false)) 1

abbrev pub right_edge : Grid → ℕ
right_edge g = min (max (most_bars g (columns g)) (framing g false)) 1

-- ---- places, in cells after the left edge of the table

abbrev pub laid : ℕ → Column → Column
laid left c = record c {
  left = left;
  right = sum left c.width;
  bar = sum (sum left c.width) c.bar_in;
}

pub record Laying : Type 0 where
  pub grid : Grid
  pub place : ℕ

abbrev pub laying : Grid → ℕ → Laying
laying g place = record { grid = g; place = place }

abbrev pub column_laid : ℕ → ℕ → Grid → Laying
column_laid n left g =
    laying (record g { columns = put n (laid left (column g n)) g.columns })
    (sum (sum left (column g n).width) (column g n).gap)

abbrev pub laid_at : ℕ → Laying → Laying
laid_at n l = column_laid n l.place l.grid

-- the first begins after a bar at the edge
abbrev pub laid_out : Grid → Grid
laid_out g = (in_turn (columns g) laid_at (laying g (sum (left_edge g) g.edges.left))).grid

abbrev pub table_end : Grid → ℕ
table_end g =
    if columns g == 0 then 0
    else sum (sum (column g (columns g - 1)).right (right_edge g)) g.edges.right

abbrev pub bar_place : Grid → ℕ → ℕ
bar_place g c = if c == 0 then 0 else if nat_le (columns g) c then table_end g else (column g (c - 1)).bar

-- ---- whether a row has bars

-- in so many columns from one on
abbrev pub some_bars : ℕ → Grid → ℕ → ℕ → Bool
some_bars zero g r c = false
some_bars (suc n) g r c = nat_lt 0 (bars_of g r c) || some_bars n g r (c + 1)

abbrev pub has_bars : Grid → ℕ → Bool
has_bars g r = some_bars (sum (columns g) 1) g r 0
