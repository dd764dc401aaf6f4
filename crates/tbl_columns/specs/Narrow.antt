-- A table that is wider than the line is narrowed, so that it fits: a cell is taken from its widest column, the first of several, again and
-- again until it fits or no column is wider than its longest word. Fields that are wider than their columns then are set in lines, ragged.
-- Numbers are never narrowed. A rule or a bar at its end has room, too.
use Rattle.std.specs.Prelude.{ℕ, zero, suc, ◌+◌, ◌-◌, max, min, Bool, true, false, ◌==◌, ◌&&◌, ◌||◌, not, nat_le, nat_lt, List, [], ◌∷◌, length, get_or, slice_set, Option, None, Some, if◌then◌else◌}
use Prim.Native.Char.{code}
use Rattle.tbl_columns.specs.declared.grid.Block.{Block}
use Rattle.tbl_columns.specs.declared.grid.Cell.{Cell}
use Rattle.tbl_columns.specs.declared.grid.Column.{Column}
use Rattle.tbl_columns.specs.declared.grid.Grid.{Grid}
use Rattle.tbl_columns.specs.Columns.{beside, is_given, is_number, measures, needs, span_width, spans}
use Rattle.tbl_columns.specs.Frames.{laid_out, table_end}
use Rattle.tbl_columns.specs.Held.{block_of, cell_of, column, columns}
use Rattle.tbl_columns.specs.Shares.{line_room}
use Rattle.tbl_columns.specs.Texts.{all_filled_within, counted_cell, read_words}
use Rattle.tbl_table.specs.Held.{is_text, text_of}
use Rattle.tbl_table.specs.Lists.{in_turn, put}
use Rattle.tbl_table.specs.Sums.{sum}

-- ---- fields that may be set in lines: text of more than one word

abbrev pub has_blank : List ℕ → Bool
has_blank [] = false
has_blank (b ∷ bs) = (b == code " ") || has_blank bs

abbrev pub may_break : Grid → Cell → Bool
may_break g f = measures f && not (is_number f) && has_blank (text_of g.table f.field.span)

abbrev pub long_read : ℕ → Grid → Grid
long_read n g = if may_break g (cell_of g n) then read_words n (cell_of g n) g else g

abbrev pub long_fields_read : Grid → Grid
long_fields_read g = in_turn (length g.cells.items) long_read g

-- ---- how narrow columns may be

abbrev pub least_in : Cell → Option Block → ℕ
least_in f (Some b) = sum b.word (beside f)
least_in f None = if measures f && not (is_number f) then needs f else 1

abbrev pub least_of_cell : Grid → Cell → ℕ
least_of_cell g f = least_in f (block_of g f)

abbrev pub least_by_numbers : Grid → ℕ → ℕ
least_by_numbers g c = max (sum (column g c).prefix (column g c).back) 1

-- by the fields that stand in a column alone
abbrev pub with_least : Grid → ℕ → Cell → ℕ → ℕ
with_least g c f least = if (f.first == c) && not (spans f) then max (least_of_cell g f) least else least

abbrev pub least_by_fields : Grid → ℕ → ℕ → List Cell → ℕ
least_by_fields g c least [] = least
least_by_fields g c least (f ∷ fs) =
    least_by_fields g c (with_least g c f least) fs

abbrev pub first_least : Grid → ℕ → ℕ
first_least g c = if nat_lt c (columns g) then least_by_numbers g c else 1

abbrev pub least : Grid → ℕ → ℕ
least g c = least_by_fields g c (first_least g c) g.cells.items

-- ---- a cell is taken

-- of the first columns the widest that may be narrower, the first of several; its width stands beside it
pub record Widest : Type 0 where
  pub found : Option ℕ
  pub most : ℕ

abbrev pub found_so_far : Option ℕ → ℕ → Widest
found_so_far found most = record { found = found; most = most }

abbrev pub nothing_found : Widest
nothing_found = found_so_far None 0

abbrev pub is_widest : ℕ → ℕ → ℕ → Bool
is_widest width least most = nat_lt least width && nat_lt most width

abbrev pub found_at : Grid → (ℕ → ℕ) → ℕ → Widest → Widest
found_at g leasts c w =
    if is_widest (column g c).width (leasts c) w.most then record { found = Some c; most = (column g c).width } else w

abbrev pub widest : Grid → (ℕ → ℕ) → Option ℕ
widest g leasts = (in_turn (min (columns g) 64) (found_at g leasts) nothing_found).found

abbrev pub narrower : Column → Column
narrower c = record c { width = c.width - 1; alpha = min c.alpha (c.width - 1) }

abbrev pub taken_from : Option ℕ → Grid → Grid
taken_from None g = g
taken_from (Some c) g = record g { columns = put c (narrower (column g c)) g.columns }

-- so many in turn
abbrev pub cells_taken : ℕ → (ℕ → ℕ) → Grid → Grid
cells_taken zero leasts g = g
cells_taken (suc n) leasts g = cells_taken n leasts (taken_from (widest g leasts) g)

-- ---- fields of text that fit in their columns stay in one line

abbrev pub keeps_line : Cell → Grid → Bool
keeps_line f g = is_text f.field.form && nat_le (needs f) (span_width g f.first f.last)

abbrev pub line_kept : ℕ → Grid → Grid
line_kept n g =
    if keeps_line (cell_of g n) g then record g { cells = put n (record (cell_of g n) { block = None }) g.cells } else g

abbrev pub lines_kept : Grid → Grid
lines_kept g = in_turn (length g.cells.items) line_kept g

-- ---- a narrow table

abbrev pub block_counted : ℕ → Grid → Grid
block_counted n g = if is_given (cell_of g n).block then counted_cell n g else g

abbrev pub blocks_counted : Grid → Grid
blocks_counted g = in_turn (length g.cells.items) block_counted g

abbrev pub with_long_fields : Grid → Grid
with_long_fields g = long_fields_read (record g { narrowed = true })

abbrev pub made_narrow : ℕ → Grid → Grid
made_narrow cells g =
    let long = with_long_fields g in
    laid_out (blocks_counted (all_filled_within (lines_kept (cells_taken cells (least long) long))))

abbrev pub is_too_wide : Grid → Bool
is_too_wide g = g.room.fits && not g.table.looks.nofit && nat_lt (line_room g) (table_end g)

abbrev pub narrowed : Grid → Grid
narrowed g = if is_too_wide g then made_narrow (sum (table_end g) 1 - line_room g) g else g
