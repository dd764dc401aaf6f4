-- Rows of columns: a cell begins where its column does, on the line of the cell before it if that has room in its own
-- (mdoc(7), Bl -column and Ta).
use Rattle.std.specs.Prelude.{ℕ, ◌+◌, List, [], ◌++◌, Bool, true, false, not, ◌==◌, ◌&&◌, nat_lt, nat_le, if◌then◌else◌, codes}
use Rattle.mdoc_layout.specs.declared.page.Block.{Block}
use Rattle.mdoc_layout.specs.declared.page.Kind.{Kind}
use Rattle.mdoc_layout.specs.declared.page.Kind.TheVariants as kinds
use Rattle.mdoc_layout.specs.declared.page.Page.{Page}
use Rattle.mdoc_layout.specs.Laying.{Laid, laid, with_lay, was_put}
use Rattle.mdoc_layout.specs.Lengths.{at_most}
use Rattle.mdoc_layout.specs.OwnLines.{digits, fresh, line_end, put_head}

-- Columns begin with a macro: `.%b W` begins a cell W further to the right, beside the last line of the cell before it if that has one
-- which leaves a blank. The first comparison gives 1 or 0, and no place is below 0.
abbrev pub cell_macro : List ℕ
cell_macro =
    codes ".de %b\n.in +\\\\$1\n.if \\\\$1>\\\\n(.n*\\\\n(nl>\\\\n(%t \\\\{.sp -1\n\\\\&\\\\c\n.\\\\}\n.nr %t \\\\n(nl\n..\n"

-- and with a string, of their tab stops
abbrev pub put_columns : Page → Laid
put_columns p = put_head (cell_macro ++ codes ".ds %c") p

-- the width of the newest column is kept, and a tab stop stands after the ones before
abbrev pub put_column : ℕ → Page → Laid
put_column width p =
    laid (fresh p) (line_end p ++ codes ".nr %" ++ digits p.block.columns ++ codes " " ++ digits width
    ++ codes "n\n.as %c \" +" ++ digits width ++ codes "n+\\\\n(%gu\n")

-- the space after each of so many columns
abbrev pub gap : ℕ → ℕ
gap columns = if nat_lt columns 5 then 4 else if columns == 5 then 3 else 1

abbrev pub put_stops : ℕ → Page → Laid
put_stops gap p = laid (fresh p) (line_end p ++ codes ".nr %g " ++ digits gap ++ codes "n\n.ta \\*(%c\n")

abbrev pub is_column : Kind → Bool
is_column kinds.Column = true
is_column kind = false

-- in a list of columns without items a text line is a row
abbrev pub has_rows : Block → Bool
has_rows b = is_column b.kind && not b.begun

-- ---- rows, each where two lines have room: the first cell has the number 0, and the place before each is kept

abbrev pub put_row : Page → Laid
put_row p =
    laid (with_lay (record (fresh p).lay { cell = 0 }) p) (line_end p ++ codes ".in \\n_u\n.)N 2\n.nr %t \\n(nl\n")

abbrev pub next_cell : Page → ℕ
next_cell p = at_most 99 p.lay.cell + 1

-- the width of the column before a cell, and the space after it
abbrev pub step_to : ℕ → Block → List ℕ
step_to cell b = codes "\\n[%" ++ digits cell ++ codes "]u+" ++ digits (gap b.columns) ++ codes "n"

-- the next cell stands further to the right, beside the last line of the one before if that leaves a blank
abbrev pub put_step : Page → List ℕ
put_step p = codes ".%b " ++ step_to (next_cell p) p.block ++ codes "\n"

-- one after the last column's joins what is before
abbrev pub has_column : Page → Bool
has_column p = nat_le (next_cell p) p.block.columns

abbrev pub cell_begun : Page → Page
cell_begun p =
    let lay = if has_column p then (fresh p).lay else record (was_put p).lay { joined = true } in
    with_lay (record lay { cell = next_cell p }) p

abbrev pub put_cell : Page → Laid
put_cell p =
    laid (cell_begun p) (if has_column p then line_end p ++ put_step p else
    if p.block.columns == 0 then codes "\t" else [])
