-- Text blocks (Lesk, "Text blocks"; tbl(1), "Text blocks"), and fields that have become such: their words are read, and their lines filled in
-- as many cells as their columns have by then, in the order of rows. Where no column of a block says its width it takes a share of the line
-- at least, as if the table had one column more.
use Rattle.std.specs.Prelude.{ℕ, zero, suc, ◌+◌, ◌-◌, max, min, Bool, true, false, ◌==◌, ◌&&◌, ◌||◌, nat_le, nat_lt, List, [], ◌∷◌, length, drop, get_or, Option, None, Some, unwrap_or, if◌then◌else◌}
use Rattle.tbl_blocks.specs.declared.blocks.Blocks.{Blocks}
use Rattle.tbl_blocks.specs.declared.parts.Font.{Font}
use Rattle.tbl_blocks.specs.declared.parts.Font.TheVariants as fonts
use Rattle.tbl_blocks.specs.declared.parts.Line.{Line}
use Rattle.tbl_blocks.specs.declared.parts.Seen.{Seen}
use Rattle.tbl_blocks.specs.Blocks as blocks
use Rattle.tbl_columns.specs.declared.grid.Block.{Block}
use Rattle.tbl_columns.specs.declared.grid.Cell.{Cell}
use Rattle.tbl_columns.specs.declared.grid.Column.{Column}
use Rattle.tbl_columns.specs.declared.grid.Grid.{Grid}
use Rattle.tbl_columns.specs.Cells.{columns_over}
use Rattle.tbl_columns.specs.Columns.{beside, is_given, needs, parts_end, span_width, spans, widened, with_width}
use Rattle.tbl_columns.specs.Held.{block_in, block_of, cell_of, column, columns, no_block, text}
use Rattle.tbl_table.specs.Held.{is_block, text_of}
use Rattle.tbl_table.specs.Lists.{added, in_turn, put}
use Rattle.tbl_table.specs.Sums.{sum}

-- ---- words: those of a field have numbers from one on

abbrev pub text_from : ℕ → ℕ → Seen → Grid → Block
text_from first word seen g = record no_block {
  first = first;
  «end» = length g.blocks.parts.items;
  word = word;
  spread = seen.spread;
  defines = seen.defines;
}

abbrev pub as_text : ℕ → Seen → Cell → Cell
as_text number seen f = record f { block = Some number; sure = f.sure && seen.sure }

abbrev pub text_added : ℕ → ℕ → ℕ → Seen → Grid → Grid
text_added n first word seen g = record g {
  texts = added (text_from first word seen g) g.texts;
  cells = put n (as_text (length g.texts.items) seen (cell_of g n)) g.cells;
}

abbrev pub with_blocks : Blocks → Grid → Grid
with_blocks b g = record g { blocks = b }

abbrev pub parts : Grid → ℕ
parts g = length g.blocks.parts.items

-- that of its column, or roman
abbrev pub font_of : Cell → Font
font_of f = unwrap_or f.key.font fonts.Roman

-- a block may be cut wherever its lines may end, a field at its blanks alone
abbrev pub block_read_in : ℕ → Cell → Grid → Blocks
block_read_in n f g =
    blocks.block_read (text_of g.table f.field.span) f.field.span.start (font_of f) g.spreads g.blocks

abbrev pub read_block : ℕ → Cell → Grid → Grid
read_block n f g =
    let b = block_read_in n f g in
    text_added n (parts g) (blocks.longest_run (min (parts g) (length b.parts.items)) (length b.parts.items) b) b.reading.seen
    (with_blocks b g)

abbrev pub words_read_in : Cell → Grid → Blocks
words_read_in f g =
    blocks.field_read (text_of g.table f.field.span) f.field.span.start (font_of f) g.blocks

abbrev pub read_words : ℕ → Cell → Grid → Grid
read_words n f g =
    let b = words_read_in f g in
    text_added n (parts g) (blocks.longest_word (min (parts g) (length b.parts.items)) (length b.parts.items) b) b.reading.seen
    (with_blocks b g)

abbrev pub read_at : ℕ → Grid → Grid
read_at n g = if is_block (cell_of g n).field.form then read_block n (cell_of g n) g else g

abbrev pub blocks_read : Grid → Grid
blocks_read g = in_turn (length g.cells.items) read_at g

-- ---- lines

-- the widest of these, and how many lines of the page they take: empty ones stand before some of them
abbrev pub widest_line : List Line → ℕ
widest_line [] = 0
widest_line (l ∷ ls) = max (sum l.cells l.lack) (widest_line ls)

abbrev pub rows_of : List Line → ℕ
rows_of [] = 0
rows_of (l ∷ []) = sum l.row 1
rows_of (l ∷ k ∷ ls) = rows_of (k ∷ ls)

-- those from a number on
abbrev pub lines_from : ℕ → Grid → List Line
lines_from n g = drop n g.blocks.lines.items

abbrev pub end_of : Block → Grid → ℕ
end_of b g = min b.«end» (parts g)

abbrev pub text_lines : Block → ℕ → Grid → Grid
text_lines b width g =
    with_blocks (blocks.filled (min b.first (end_of b g)) (end_of b g) width b.spread g.blocks) g

abbrev pub with_lines : ℕ → Block → Grid → Block
with_lines first b g = record b {
  line = first;
  line_end = length g.blocks.lines.items;
  rows = rows_of (lines_from first g);
}

abbrev pub lines_counted : ℕ → ℕ → ℕ → Block → Grid → Grid
lines_counted n place first b g = record g {
  texts = put place (with_lines first b g) g.texts;
  cells = put n (record (cell_of g n) { width = widest_line (lines_from first g) }) g.cells;
}

abbrev pub filled_text : ℕ → ℕ → ℕ → Grid → Grid
filled_text n place width g =
    lines_counted n place (length g.blocks.lines.items) (text g place) (text_lines (text g place) width g)

abbrev pub filled_in : ℕ → Option ℕ → ℕ → Grid → Grid
filled_in n None width g = g
filled_in n (Some place) width g = filled_text n place width g

-- a field in columns of so many cells
abbrev pub filled_cell : ℕ → ℕ → Grid → Grid
filled_cell n width g = filled_in n (cell_of g n).block (width - beside (cell_of g n)) g

-- its columns are as wide as it at least
abbrev pub counted_cell : ℕ → Grid → Grid
counted_cell n g =
    let f = cell_of g n in
    if spans f then widened f.first f.last (needs f) g else
    record g { columns = put f.first (with_width (max (column g f.first).width (needs f)) (column g f.first)) g.columns }

-- ---- the width in which a block is filled

-- of so many columns from one on
abbrev pub some_wide : ℕ → Grid → ℕ → Bool
some_wide zero g c = false
some_wide (suc n) g c = (column g c).wide || some_wide n g (c + 1)

abbrev pub all_given : ℕ → Grid → ℕ → Bool
all_given zero g c = true
all_given (suc n) g c = is_given (column g c).least && all_given n g (c + 1)

abbrev pub is_wide : Grid → Cell → Bool
is_wide g f = some_wide (columns_over f.first f.last) g f.first

abbrev pub has_width : Grid → Cell → Bool
has_width g f = all_given (columns_over f.first f.last) g f.first

abbrev pub share_of : Grid → Cell → ℕ
share_of g f =
    if has_width g f || is_wide g f then 0
    else parts_end g.room.line (columns_over f.first f.last) (sum (columns g) 1)

abbrev pub fill_width : Grid → Cell → ℕ
fill_width g f = max (span_width g f.first f.last) (share_of g f)

-- ---- blocks in the order of rows: those of one column first, then those over several; those in columns of x once these have their share

abbrev pub is_same : Bool → Bool → Bool
is_same true b = b
is_same false true = false
is_same false false = true

abbrev pub is_pending : Grid → Cell → Bool → Bool → Bool
is_pending g f over wide = is_given f.block && is_same (spans f) over && is_same (is_wide g f) wide

abbrev pub filled_at : Bool → Bool → ℕ → Grid → Grid
filled_at over wide n g =
    if is_pending g (cell_of g n) over wide then counted_cell n (filled_cell n (fill_width g (cell_of g n)) g) else g

abbrev pub filled_some : Bool → Bool → Grid → Grid
filled_some over wide g = in_turn (length g.cells.items) (filled_at over wide) g

abbrev pub filled_blocks : Bool → Grid → Grid
filled_blocks wide g =
    if length g.texts.items == 0 then g else filled_some true wide (filled_some false wide g)

-- ---- blocks in columns that have their width: where these are narrower than its words, a block is as wide as they are

abbrev pub within_in : ℕ → Cell → Option Block → Grid → Grid
within_in n f None g = g
within_in n f (Some b) g = filled_cell n (max (span_width g f.first f.last) (sum b.word (beside f))) g

abbrev pub filled_within : ℕ → Grid → Grid
filled_within n g = within_in n (cell_of g n) (block_of g (cell_of g n)) g

abbrev pub all_filled_within : Grid → Grid
all_filled_within g =
    in_turn (length g.cells.items) filled_within (with_blocks (blocks.without_lines g.blocks) g)

-- ---- the line of a block that stands in a row of it, if one does

abbrev pub if_in_row : ℕ → Line → Option Line
if_in_row row l = if l.row == row then Some l else None

abbrev pub no_line : Line
no_line = record {
  first = 0;
  «end» = 0;
  row = 0;
  indent = 0;
  cells = 0;
  gaps = 0;
  lack = 0;
  left = false;
  hyphen = false;
}

-- of so many lines from a number on the last that stands no further down
abbrev pub line_up_to : ℕ → ℕ → ℕ → List Line → Option Line
line_up_to zero first row ls = None
line_up_to (suc n) first row ls =
    if nat_le (length ls) (sum first n) then None else
    if nat_le (get_or ls (sum first n) no_line).row row then if_in_row row (get_or ls (sum first n) no_line)
    else line_up_to n first row ls

abbrev pub line_in_row : Grid → Block → ℕ → Option Line
line_in_row g b row = line_up_to (min (b.line_end - b.line) (sum row 1)) b.line row g.blocks.lines.items
