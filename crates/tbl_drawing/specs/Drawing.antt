-- The lines of a table, as strokes of a pen from the left to the right (Lesk, "Format"; tbl(1), "Column classifiers" and "Table data").
-- In a row stand bars, rules of columns, fields, and lines of blocks; in a rule between two rows bars meet it, and fields go on over it from
-- above.
use Rattle.std.specs.Prelude.{ℕ, zero, suc, ◌+◌, ◌-◌, ◌/◌, Bool, true, false, ◌==◌, ◌&&◌, ◌||◌, not, nat_le, nat_lt, length, List, [], ◌∷◌, ◌++◌, replicate, get_or, codes, Option, None, Some, if◌then◌else◌}
use Prim.Native.Char.{code}
use Rattle.tbl_blocks.specs.declared.parts.Font.{Font}
use Rattle.tbl_blocks.specs.declared.parts.Font.TheVariants as fonts
use Rattle.tbl_blocks.specs.declared.parts.Line.{Line}
use Rattle.tbl_blocks.specs.declared.parts.Part.{Part}
use Rattle.tbl_blocks.specs.Parts.{blanks, gap_more, is_gap, letter_of, no_part}
use Rattle.tbl_columns.specs.declared.grid.Block.{Block}
use Rattle.tbl_columns.specs.declared.grid.Cell.{Cell}
use Rattle.tbl_columns.specs.declared.grid.Column.{Column}
use Rattle.tbl_columns.specs.Columns.{prefix_cells, is_given, is_number, spans}
use Rattle.tbl_columns.specs.Frames.{bar_place, bars_of, bars_seen, count, framing_at, is_covered, is_ruled, meeting, table_end, was_ruled}
use Rattle.tbl_columns.specs.Held.{block_of, cell, cell_number, cell_of, column, columns}
use Rattle.tbl_columns.specs.Texts.{line_in_row}
use Rattle.tbl_drawing.specs.declared.layout.Layout.{Layout}
use Rattle.tbl_drawing.specs.Held.{begin_line}
use Rattle.tbl_drawing.specs.Pens as pens
use Rattle.tbl_drawing.specs.Pens.{Stroke, Start, To, Bytes, Text, Pass}
use Rattle.tbl_drawing.specs.Steps.{is_rule_item}
use Rattle.tbl_drawing.specs.Writing.{text_if}
use Rattle.tbl_table.specs.declared.table.Form.{Form}
use Rattle.tbl_table.specs.declared.table.Form.TheVariants as forms
use Rattle.tbl_table.specs.declared.table.Kind.{Kind}
use Rattle.tbl_table.specs.declared.table.Kind.TheVariants as kinds
use Rattle.tbl_table.specs.declared.table.Span.{Span}
use Rattle.tbl_table.specs.Held.{has_text, is_boxed, is_double, is_rule, is_text, item, row, text_of}
use Rattle.tbl_table.specs.Signs.{joint}
use Rattle.tbl_table.specs.Sums.{sum}

-- ---- where a field begins in columns of so many cells: at the left, at the right, in the middle; numbers stand below each other

abbrev pub number_in : ℕ → ℕ → Column → ℕ
number_in prefix room c = sum ((room - sum c.prefix c.back) / 2) c.prefix - prefix

abbrev pub number_begin : Layout → Cell → ℕ → Option ℕ
number_begin l f room =
    if not (is_number f) || spans f || is_given f.block then None
    else Some (number_in (prefix_cells l.grid f) room (column l.grid f.first))

-- a text that is wider than its columns stands over their edges as far on one side as on the other
abbrev pub in_middle : ℕ → ℕ → ℕ → ℕ
in_middle room width left = sum left ((room - width) / 2) - (width - room) / 2

abbrev pub on_in : Option ℕ → ℕ → ℕ → ℕ → ℕ
on_in None room width left = in_middle room width left
on_in (Some cells) room width left = sum left cells

abbrev pub begin_in_middle : Layout → Cell → ℕ → ℕ
begin_in_middle l f room = on_in (number_begin l f room) room f.width (column l.grid f.first).left

-- fields of a stand at the left of the widest of them, which stands in the middle
abbrev pub begin_of_alpha : Layout → Cell → ℕ → ℕ
begin_of_alpha l f room =
    if spans f || is_given f.block then begin_in_middle l f room
    else sum (column l.grid f.first).left ((room - (column l.grid f.first).alpha) / 2)

abbrev pub begin_as : Kind → Layout → Cell → ℕ → ℕ
begin_as kinds.Right l f room = sum (column l.grid f.first).left room - f.width
begin_as kinds.Alpha l f room = begin_of_alpha l f room
begin_as kinds.Centre l f room = begin_in_middle l f room
begin_as kinds.Number l f room = begin_in_middle l f room
begin_as kind l f room = (column l.grid f.first).left

abbrev pub begin_in : Layout → Cell → ℕ → ℕ
begin_in l f room = begin_as f.key.kind l f room

abbrev pub is_left : Kind → Form → Bool
is_left kinds.Left form = true
is_left kinds.Down form = true
is_left kinds.Rule form = true
is_left kinds.DoubleRule form = true
is_left kinds.Number form = not (is_text form)
is_left kind form = false

abbrev pub stands_left : Cell → Bool
stands_left f = is_left f.key.kind f.field.form

abbrev pub begin_of : Layout → Cell → ℕ
begin_of l f =
    let left = (column l.grid f.first).left in
    if stands_left f then left else begin_in l f ((column l.grid f.last).right - left)

-- ---- its text, with its font

abbrev pub font_text : Font → List ℕ
font_text font = code "\\" ∷ code "f" ∷ letter_of font ∷ []

abbrev pub font_if : Option Font → List ℕ
font_if None = []
font_if (Some font) = font_text font

abbrev pub has_escape : List ℕ → Bool
has_escape [] = false
has_escape (b ∷ bs) = (b == code "\\") || has_escape bs

-- after a text that may have changed it the font is roman
abbrev pub font_restored : List ℕ → List ℕ
font_restored text = if has_escape text then font_text fonts.Roman else codes "\\fP"

abbrev pub font_back : Option Font → List ℕ → List ℕ
font_back None text = []
font_back (Some font) text = font_restored text

abbrev pub field_text : Layout → Cell → List ℕ
field_text l f =
    font_if f.key.font ++ text_of l.grid.table f.field.span ++ font_back f.key.font (text_of l.grid.table f.field.span)

-- ---- strokes of a field

abbrev pub first_byte : List ℕ → ℕ
first_byte [] = code " "
first_byte (b ∷ bs) = b

abbrev pub first_in : Option Font → List ℕ → ℕ
first_in None text = first_byte text
first_in (Some font) text = code "\\"

abbrev pub first_of : Layout → Cell → ℕ
first_of l f = first_in f.key.font (text_of l.grid.table f.field.span)

abbrev pub if_sure : Bool → ℕ → Option ℕ
if_sure sure cells = if sure then Some cells else None

abbrev pub text_strokes : Layout → Cell → List Stroke
text_strokes l f =
    To (begin_of l f) ∷ pens.begin (first_of l f) ++ Text (field_text l f) ∷ Pass (if_sure f.sure f.width) ∷ []

-- a rule up to a place
abbrev pub dash : Layout → ℕ → List Stroke
dash l place = pens.dash l.grid.table.signs.rule place

-- a rule as wide as what stands in a column has a cell more, if the space after it has more than a bar
abbrev pub inner_end : Layout → ℕ → ℕ
inner_end l c = sum (column l.grid c).right (count (nat_lt 1 (column l.grid c).gap))

abbrev pub field_in : Form → Layout → Cell → List Stroke
field_in forms.Text l f = if has_text f.field then text_strokes l f else []
field_in forms.Inner l f = To (column l.grid f.first).left ∷ dash l (inner_end l f.last)
field_in (forms.Repeat b) l f = To (column l.grid f.first).left ∷ pens.fill b (column l.grid f.last).right
field_in form l f = []

abbrev pub field_strokes : Layout → Cell → List Stroke
field_strokes l f = field_in f.field.form l f

-- ---- a line of a block

abbrev pub part : Layout → ℕ → Part
part l n = get_or l.grid.blocks.parts.items n no_part

abbrev pub span_of : Part → Span
span_of p = record { start = p.start; «end» = p.«end» }

-- an address stands in angle brackets
abbrev pub bracketed : Bool → List ℕ → List ℕ
bracketed is text = text_if is (codes "<") ++ text ++ text_if is (codes ">")

abbrev pub first_bracketed : Bool → List ℕ → ℕ
first_bracketed is text = if is then code "<" else first_byte text

abbrev pub part_span : Layout → ℕ → List ℕ
part_span l n = text_of l.grid.table (span_of (part l n))

abbrev pub part_text : Layout → ℕ → List ℕ
part_text l n = bracketed (part l n).bracketed (part_span l n)

abbrev pub is_same_font : Font → Font → Bool
is_same_font fonts.Roman fonts.Roman = true
is_same_font fonts.Italic fonts.Italic = true
is_same_font fonts.Bold fonts.Bold = true
is_same_font one other = false

abbrev pub font_change : Font → Font → List ℕ
font_change before now = if is_same_font before now then [] else font_text now

-- of a line that is spread, gaps have more blanks
abbrev pub more_in : Part → Line → ℕ → ℕ
more_in p line gap = if is_gap p.join then gap_more gap line else 0

abbrev pub blanks_before : Layout → ℕ → Line → ℕ → List ℕ
blanks_before l n line gap = replicate (sum (blanks (part l n).join) (more_in (part l n) line gap)) (code " ")

-- but before the first part of a line; the gap before another is one more of those that may be widened
abbrev pub blanks_if : Layout → ℕ → Line → ℕ → List ℕ
blanks_if l n line gap = if nat_lt line.first n then blanks_before l n line gap else []

abbrev pub gaps_if : Layout → ℕ → Line → ℕ → ℕ
gaps_if l n line gap = if nat_lt line.first n then sum gap (count (is_gap (part l n).join)) else gap

-- a part after a font, with so many gaps before it: its blanks, the font where it changes, and its text
abbrev pub part_after : Layout → ℕ → Line → Font → ℕ → List ℕ
part_after l n line font gap = blanks_if l n line gap ++ font_change font (part l n).font ++ part_text l n

-- so many parts from a number on; in the end the font is roman
abbrev pub parts_text : ℕ → Layout → ℕ → Line → Font → ℕ → List ℕ
parts_text zero l n line font gap = []
parts_text (suc k) l n line font gap =
    part_after l n line font gap ++ parts_text k l (n + 1) line (part l n).font (gaps_if l n line gap)

abbrev pub last_font : ℕ → Layout → ℕ → Font → Font
last_font zero l n font = font
last_font (suc k) l n font = last_font k l (n + 1) (part l n).font

abbrev pub hyphen_text : Bool → List ℕ
hyphen_text hyphen = if hyphen then code "-" ∷ [] else []

abbrev pub line_text : Layout → Line → List ℕ
line_text l line =
    parts_text (line.«end» - line.first) l line.first line fonts.Roman 0 ++ hyphen_text line.hyphen
    ++ font_change (last_font (line.«end» - line.first) l line.first fonts.Roman) fonts.Roman

abbrev pub first_of_line : Layout → Line → ℕ
first_of_line l line =
    if is_same_font (part l line.first).font fonts.Roman
    then first_bracketed (part l line.first).bracketed (part_span l line.first) else code "\\"

abbrev pub line_cells : Line → ℕ
line_cells line = sum (line.cells - line.indent) line.lack

abbrev pub line_strokes : Layout → Cell → Line → List Stroke
line_strokes l f line =
    To (sum (begin_of l f) line.indent) ∷ pens.begin (first_of_line l line)
    ++ Text (line_text l line) ∷ Pass (if_sure f.sure (line_cells line)) ∷ []

-- one at the end of a block may print nothing
abbrev pub has_letters : Layout → Line → Bool
has_letters l line =
    nat_lt (sum line.first 1) line.«end» || nat_lt (part l line.first).start (part l line.first).«end»

abbrev pub line_in : Option Line → Layout → Cell → List Stroke
line_in None l f = []
line_in (Some line) l f = if has_letters l line then line_strokes l f line else []

abbrev pub block_strokes : Layout → Cell → Block → ℕ → List Stroke
block_strokes l f b row = line_in (line_in_row l.grid b row) l f

-- ---- what of a field stands on a line: a line of its block; one that goes on over rows below stands on one of their lines

abbrev pub on_line : Option Block → Layout → ℕ → Cell → ℕ → List Stroke
on_line None l n f line = if f.falls && (begin_line l n == line) then field_strokes l f else []
on_line (Some b) l n f line =
    if nat_le (begin_line l n) line then block_strokes l f b (line - begin_line l n) else []

abbrev pub falling : Layout → ℕ → ℕ → ℕ → List Stroke
falling l r c line =
    let n = cell_number l.grid r c in
    let f = cell_of l.grid n in
    if f.first == c then on_line (block_of l.grid f) l n f line else []

-- ---- a row

-- a rule goes on up to there, or the pen goes
abbrev pub go : Layout → Bool → ℕ → List Stroke
go l ruled place = if ruled then dash l place else To place ∷ []

abbrev pub bars_as : Layout → ℕ → ℕ → Bool → ℕ → List Stroke
bars_as l c byte was n = go l was (bar_place l.grid c) ++ pens.bars byte n

-- bars before a column, after a rule of a field or before one
abbrev pub bar : Layout → ℕ → ℕ → Bool → Bool → List Stroke
bar l r c was now =
    if bars_of l.grid r c == 0 then [] else bars_as l c (joint l.grid.table.signs true true was now) was (bars_of l.grid r c)

-- bars go down from a row, but from the last one of a table without a box
abbrev pub goes_below : Layout → ℕ → Bool
goes_below l r = is_boxed l.grid.table || l.measured || not (sum (row l.grid.table r).item 1 == length l.grid.table.items.items)

abbrev pub bar_byte : Layout → ℕ → Bool → Bool → ℕ
bar_byte l r was now = joint l.grid.table.signs true (goes_below l r) was now

-- the bars that are seen before a column of a row, after a rule of a field or before one
abbrev pub row_bar : Layout → ℕ → ℕ → Bool → Bool → List Stroke
row_bar l r c was now =
    if bars_seen l.grid r c == 0 then [] else bars_as l c (bar_byte l r was now) was (bars_seen l.grid r c)

-- a rule of a field: where none stands before it, and no bar is seen, it begins where bars would stand
abbrev pub rule_begin : Layout → ℕ → ℕ → List Stroke
rule_begin l r c =
    if not (was_ruled l.grid r c) && (bars_seen l.grid r c == 0) then To (bar_place l.grid c) ∷ [] else []

-- beside a field without one, and at the table's end, it ends there too, with a cell, but where columns have no space between them
abbrev pub turn_end : Layout → ℕ → ℕ
turn_end l c = sum (bar_place l.grid c) (count (nat_lt 0 (column l.grid (c - 1)).gap))

abbrev pub rule_stop : Layout → ℕ → ℕ
rule_stop l c = if nat_lt c (columns l.grid) then turn_end l c else sum (table_end l.grid) 1

abbrev pub goes_on : Layout → ℕ → ℕ → Bool
goes_on l r c = (nat_lt c (columns l.grid) && is_ruled l.grid r c) || nat_lt 0 (bars_seen l.grid r c)

abbrev pub column_rule_end : Layout → ℕ → ℕ → List Stroke
column_rule_end l r c = if goes_on l r c then [] else dash l (rule_stop l c)

abbrev pub column_rule : Layout → ℕ → ℕ → List Stroke
column_rule l r c = rule_begin l r c ++ dash l (column l.grid c).right ++ column_rule_end l r (sum c 1)

-- in its column a field that goes on, or a line of a block, stands on some lines, and another in its row
abbrev pub own_in : Layout → ℕ → ℕ → ℕ → Cell → List Stroke
own_in l r c line f = if f.falls || is_given f.block then falling l r c line else field_strokes l f

abbrev pub text_in : Layout → ℕ → ℕ → ℕ → Cell → List Stroke
text_in l r c line f = if (f.top == r) && (f.first == c) then own_in l r c line f else falling l r c line

abbrev pub content : Layout → ℕ → ℕ → ℕ → List Stroke
content l r c line =
    let f = cell l.grid r c in
    if is_rule f.field.form && (f.top == r) then column_rule l r c else text_in l r c line f

abbrev pub row_cell : Layout → ℕ → ℕ → ℕ → List Stroke
row_cell l r c line = row_bar l r c (was_ruled l.grid r c) (is_ruled l.grid r c) ++ content l r c line

-- of the first columns
abbrev pub row_cells : ℕ → Layout → ℕ → ℕ → List Stroke
row_cells zero l r line = []
row_cells (suc c) l r line = row_cells c l r line ++ row_cell l r c line

abbrev pub row_strokes : Layout → ℕ → ℕ → List Stroke
row_strokes l r line =
    row_cells (columns l.grid) l r line ++ row_bar l r (columns l.grid) (was_ruled l.grid r (columns l.grid)) false

-- ---- the bars of a row alone

abbrev pub bars_cell : Layout → ℕ → ℕ → ℕ → List Stroke
bars_cell l r c line = bar l r c false false ++ falling l r c line

abbrev pub bars_cells : ℕ → Layout → ℕ → ℕ → List Stroke
bars_cells zero l r line = []
bars_cells (suc c) l r line = bars_cells c l r line ++ bars_cell l r c line

abbrev pub bars_strokes : Layout → ℕ → ℕ → List Stroke
bars_strokes l r line = bars_cells (columns l.grid) l r line ++ bar l r (columns l.grid) false false

-- ---- a rule between two rows: bars meet it, and go up from it and down if the rows have them; it has a gap where
-- a field goes on

-- before a column; the edge is as a column over which one goes on
abbrev pub was_covered : Layout → Option ℕ → Option ℕ → ℕ → Bool
was_covered l above below c = (c == 0) || is_covered l.grid above below (c - 1)

abbrev pub begun_crossing : Layout → Bool → ℕ → List Stroke
begun_crossing l was c = if c == 0 then [] else go l (not was) (bar_place l.grid c)

abbrev pub crossing_begin : Layout → Option ℕ → Option ℕ → ℕ → List Stroke
crossing_begin l above below c = begun_crossing l (was_covered l above below c) c

-- a line stands above a rule that is below no row: the outer one of a double box, or another rule that is the
-- first in a box
abbrev pub is_second : Layout → Option ℕ → Bool
is_second l below = is_double l.grid.table.looks.frame || (is_given below && is_rule_item (item l.grid.table 0))

-- what is above a part of a table went out before
abbrev pub goes_up_first : Layout → Option ℕ → ℕ → Bool
goes_up_first l below c = l.begun || (nat_lt 0 (framing_at l.grid c) && is_second l below)

abbrev pub goes_up : Layout → Option ℕ → Option ℕ → ℕ → Bool
goes_up l None below c = goes_up_first l below c
goes_up l (Some r) below c = nat_lt 0 (bars_of l.grid r c)

abbrev pub goes_down : Layout → Option ℕ → Option ℕ → ℕ → Bool
goes_down l above None c = nat_lt 0 (framing_at l.grid c) && (is_double l.grid.table.looks.frame || not (is_given above))
goes_down l above (Some r) c = nat_lt 0 (bars_of l.grid r c)

abbrev pub goes_right : Layout → Option ℕ → Option ℕ → ℕ → Bool
goes_right l above below c = nat_lt c (columns l.grid) && not (is_covered l.grid above below c)

abbrev pub crossing_byte : Layout → Option ℕ → Option ℕ → ℕ → ℕ
crossing_byte l above below c =
    joint l.grid.table.signs (goes_up l above below c) (goes_down l above below c)
    (not (was_covered l above below c)) (goes_right l above below c)

abbrev pub some_crossing : Layout → Option ℕ → Option ℕ → ℕ → ℕ → List Stroke
some_crossing l above below c n =
    crossing_begin l above below c ++ pens.bars (crossing_byte l above below c) n

-- where no bars meet it, it ends beside a field that goes on, or begins there: where bars would stand
abbrev pub turned : Layout → ℕ → Bool → Bool → List Stroke
turned l c false true = dash l (turn_end l c)
turned l c true false = To (bar_place l.grid c) ∷ []
turned l c was covered = []

abbrev pub turning : Layout → Option ℕ → Option ℕ → ℕ → List Stroke
turning l above below c = turned l c (was_covered l above below c) (is_covered l.grid above below c)

abbrev pub crossing : Layout → Option ℕ → Option ℕ → ℕ → List Stroke
crossing l above below c =
    if meeting l.grid above below c == 0 then turning l above below c
    else some_crossing l above below c (meeting l.grid above below c)

abbrev pub going_on : Layout → Option ℕ → Option ℕ → ℕ → ℕ → List Stroke
going_on l above None c line = []
going_on l above (Some r) c line = if is_covered l.grid above (Some r) c then falling l r c line else []

abbrev pub rule_cell : Layout → Option ℕ → Option ℕ → ℕ → ℕ → List Stroke
rule_cell l above below c line =
    crossing l above below c ++ going_on l above below c line
    ++ go l (not (is_covered l.grid above below c)) (column l.grid c).right

abbrev pub rule_cells : ℕ → Layout → Option ℕ → Option ℕ → ℕ → List Stroke
rule_cells zero l above below line = []
rule_cells (suc c) l above below line = rule_cells c l above below line ++ rule_cell l above below c line

-- a field goes on over the last column
abbrev pub ends_covered : Layout → Option ℕ → Option ℕ → Bool
ends_covered l above below = was_covered l above below (columns l.grid) && nat_lt 0 (columns l.grid)

-- a rule ends with a cell at the table's end: where no bar stands there it goes on over that
abbrev pub rule_end : Layout → Option ℕ → Option ℕ → List Stroke
rule_end l above below =
    if meeting l.grid above below (columns l.grid) == 0 then go l (not (ends_covered l above below)) (sum (table_end l.grid) 1)
    else pens.bars (crossing_byte l above below (columns l.grid)) 1

abbrev pub rule_strokes : Layout → Option ℕ → Option ℕ → ℕ → List Stroke
rule_strokes l above below line =
    rule_cells (columns l.grid) l above below line ++ go l (not (ends_covered l above below)) (table_end l.grid)
    ++ rule_end l above below

-- the outer rule of a double box, above it or below, meets no bars
abbrev pub edge_strokes : Layout → Bool → List Stroke
edge_strokes l above =
    pens.bars (joint l.grid.table.signs (not above) above false true) 1 ++ dash l (table_end l.grid)
    ++ pens.bars (joint l.grid.table.signs (not above) above true false) 1

-- ---- lines

abbrev pub whole : List Stroke → List Stroke
whole strokes = Start ∷ strokes ++ pens.end

-- the bars of a row, on a line of the table and so many further
abbrev pub bars_on : Layout → ℕ → ℕ → ℕ → List Stroke
bars_on l r line more = whole (bars_strokes l r (sum line more))

abbrev pub bars_lines : ℕ → Layout → ℕ → ℕ → List Stroke
bars_lines zero l r line = []
bars_lines (suc n) l r line = bars_lines n l r line ++ bars_on l r line n

-- the lines of a row: those after the first have its bars, and what of its fields stands there
abbrev pub more_lines : ℕ → Layout → ℕ → ℕ → List Stroke
more_lines zero l r line = []
more_lines (suc n) l r line = more_lines n l r line ++ bars_on l r line (n + 1)
