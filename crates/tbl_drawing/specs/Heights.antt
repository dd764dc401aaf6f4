-- How many lines a row takes: as many as the highest of its fields that go on over no row below, and more where a block that goes on over it
-- has more lines than its rows. A field that goes on stands at their top, in their middle or at their bottom.
use Rattle.std.specs.Prelude.{ℕ, zero, suc, ◌+◌, ◌-◌, ◌/◌, max, Bool, ◌==◌, ◌&&◌, nat_lt, length, if◌then◌else◌}
use Rattle.tbl_columns.specs.declared.grid.Cell.{Cell}
use Rattle.tbl_columns.specs.declared.grid.Grid.{Grid}
use Rattle.tbl_columns.specs.declared.grid.Placed.{Placed}
use Rattle.tbl_columns.specs.Columns.{is_given}
use Rattle.tbl_columns.specs.Held.{cell_of, height_of, placed}
use Rattle.tbl_drawing.specs.declared.layout.Layout.{Layout}
use Rattle.tbl_drawing.specs.declared.layout.Tall.{Tall}
use Rattle.tbl_drawing.specs.Held.{lines_of, tall, tall_of}
use Rattle.tbl_drawing.specs.Steps.{line_up_to, lines_taken, row_line, steps_taken}
use Rattle.tbl_table.specs.declared.table.Stand.{Stand}
use Rattle.tbl_table.specs.declared.table.Stand.TheVariants as stands
use Rattle.tbl_table.specs.Held.{none_of}
use Rattle.tbl_table.specs.Lists.{added, in_turn, put}
use Rattle.tbl_table.specs.Sums.{sum}

-- ---- by its own fields, of so many cells from one on

abbrev pub counts : Grid → ℕ → ℕ
counts g n = if (cell_of g n).falls then 1 else height_of g (cell_of g n)

abbrev pub highest : ℕ → Grid → ℕ → ℕ → ℕ
highest zero g n most = most
highest (suc k) g n most = highest k g (n + 1) (max (counts g n) most)

abbrev pub own_height : Grid → Placed → ℕ
own_height g p = highest (p.cells_end - p.cells) g p.cells 1

abbrev pub height_read : ℕ → Layout → Layout
height_read r l = record l { talls = added (tall_of (own_height l.grid (placed l.grid r))) l.talls }

abbrev pub without_talls : Layout → Layout
without_talls l = record l { talls = none_of l.talls }

abbrev pub heights_read : Layout → Layout
heights_read l = in_turn (length l.grid.placed.items) height_read (without_talls l)

-- ---- a block that goes on over rows below makes the last of them higher, if they have fewer lines

-- lines that so many rows from one on got, after lines were counted
abbrev pub lines_added : ℕ → Layout → ℕ → ℕ → ℕ
lines_added zero l r lines = lines
lines_added (suc k) l r lines = lines_added k l (r + 1) (sum lines (tall l r).more)

abbrev pub lines_over : Layout → Cell → ℕ
lines_over l f =
    sum (sum (row_line l f.bottom - row_line l f.top) (lines_added (sum f.bottom 1 - f.top) l f.top 0)) (tall l f.bottom).height

abbrev pub with_more : ℕ → Tall → Tall
with_more lines t = record t { more = sum t.more lines }

abbrev pub missing : Layout → Cell → ℕ
missing l f = height_of l.grid f - lines_over l f

abbrev pub lines_given : ℕ → ℕ → Layout → Layout
lines_given lines r l = record l { talls = put r (with_more lines (tall l r)) l.talls }

abbrev pub raised_below : Cell → Layout → Layout
raised_below f l = if nat_lt 0 (missing l f) then lines_given (missing l f) f.bottom l else l

abbrev pub raised_at : ℕ → Layout → Layout
raised_at n l =
    let f = cell_of l.grid n in
    if f.falls && is_given f.block then raised_below f l else l

abbrev pub rows_raised : Layout → Layout
rows_raised l = in_turn (length l.grid.cells.items) raised_at l

-- ---- rows with their heights, and the lines of the table

abbrev pub first_heights : Bool → Layout → Layout
first_heights ends l = steps_taken ends (heights_read l)

abbrev pub heights_settled : Bool → Layout → Layout
heights_settled ends l =
    if length l.grid.texts.items == 0 then first_heights ends l
    else steps_taken ends (rows_raised (first_heights ends l))

abbrev pub all_lines : Bool → Layout → ℕ
all_lines ends l =
    if length l.grid.texts.items == 0 then lines_taken ends (heights_read l)
    else lines_taken ends (rows_raised (first_heights ends l))

-- ---- the lines on which fields begin

abbrev pub row_end : Layout → ℕ → ℕ
row_end l r = sum (row_line l r) (lines_of (tall l r))

abbrev pub free_lines : Layout → Cell → ℕ
free_lines l f = row_end l f.bottom - row_line l f.top - height_of l.grid f

abbrev pub stand_line : Stand → ℕ → ℕ → ℕ
stand_line stands.Top top free = top
stand_line stands.Middle top free = sum top (free / 2)
stand_line stands.Low top free = sum top free

abbrev pub line_wanted : Layout → Cell → ℕ
line_wanted l f = stand_line f.key.stand (row_line l f.top) (free_lines l f)

-- text stands beside its rows
abbrev pub falling_line : Layout → ℕ → Cell → ℕ
falling_line l n f = if is_given f.block then line_wanted l f else line_up_to l n f (line_wanted l f)

abbrev pub line_of : Layout → ℕ → ℕ
line_of l n =
    let f = cell_of l.grid n in
    if f.falls then falling_line l n f else row_line l f.top

abbrev pub line_settled : ℕ → Layout → Layout
line_settled n l = record l { begins = added (line_of l n) l.begins }

abbrev pub without_begins : Layout → Layout
without_begins l = record l { begins = none_of l.begins }

abbrev pub lines_settled : Layout → Layout
lines_settled l = in_turn (length l.grid.cells.items) line_settled (without_begins l)

-- ---- the last row over which a field of a row goes on, of so many from one on

abbrev pub lowest : ℕ → Grid → ℕ → ℕ → ℕ
lowest zero g n last = last
lowest (suc k) g n last = lowest k g (n + 1) (max (cell_of g n).bottom last)

abbrev pub last_below : Layout → ℕ → ℕ
last_below l r =
    let p = placed l.grid r in
    lowest (p.cells_end - p.cells) l.grid p.cells r
