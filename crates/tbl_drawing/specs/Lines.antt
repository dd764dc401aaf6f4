-- What goes out for a table (Lesk, "Data"; tbl(1), "Table data"): its lines, with requests for the formatter before and after them: lines are not
-- filled, room is asked for what may not be cut, and a table may stand in the middle of the line.
use Rattle.std.specs.Prelude.{ℕ, ◌+◌, ◌-◌, Bool, false, ◌==◌, ◌&&◌, ◌||◌, not, nat_lt, List, [], ◌∷◌, ◌++◌, length, get_or, take, drop, map, codes, decimal, Option, None, Some, if◌then◌else◌}
use Prim.Native.Char.{code}
use Rattle.tbl_columns.specs.declared.grid.Block.{Block}
use Rattle.tbl_columns.specs.Frames.{table_end}
use Rattle.tbl_columns.specs.Held.{block_of, cell_of, placed}
use Rattle.tbl_drawing.specs.declared.layout.Layout.{Layout}
use Rattle.tbl_drawing.specs.declared.layout.Step.{Step}
use Rattle.tbl_drawing.specs.declared.layout.StepKind.{StepKind}
use Rattle.tbl_drawing.specs.declared.layout.StepKind.TheVariants as steps
use Rattle.tbl_drawing.specs.Drawing.{bars_lines, edge_strokes, more_lines, row_strokes, rule_strokes, whole}
use Rattle.tbl_drawing.specs.Heights.{last_below, row_end}
use Rattle.tbl_drawing.specs.Held.{lines_of, step, tall}
use Rattle.tbl_drawing.specs.Pens.{Stroke, Bytes, Text}
use Rattle.tbl_drawing.specs.Sequences.{joined, some_below}
use Rattle.tbl_drawing.specs.Steps.{row_line}
use Rattle.tbl_drawing.specs.Writing.{line, parts, text_if}
use Rattle.tbl_table.specs.declared.table.Item.{Item}
use Rattle.tbl_table.specs.declared.table.Item.TheVariants as items
use Rattle.tbl_table.specs.declared.table.Span.{Span}
use Rattle.tbl_table.specs.Held.{field, is_boxed, item, row, text_of}
use Rattle.tbl_table.specs.Requests.{defines, is_harmless}
use Rattle.tbl_table.specs.Sums.{sum}

-- ---- room for a whole table, in a diversion where it is printed

abbrev pub need_here : ℕ → List ℕ
need_here lines =
    line (codes ".if '\\n(.z'' .if " ∷ decimal lines ∷ codes "v<\\n(.p .ne " ∷ decimal lines ∷ codes "v" ∷ [])

abbrev pub need_printed : ℕ → List ℕ
need_printed lines = line (codes ".if !'\\n(.z'' \\{\\\n\\!.ne " ∷ decimal lines ∷ codes "v\n.\\}" ∷ [])

abbrev pub need : ℕ → List ℕ
need lines = need_here lines ++ need_printed lines

-- a box without nokeep asks for the whole table
abbrev pub is_kept : Layout → Bool
is_kept l = is_boxed l.grid.table && not l.grid.table.looks.nokeep

-- else a row of several lines asks for these, and for the rows over which a field of it goes on, with a line after them, where the page has less
abbrev pub room_text : ℕ → List ℕ
room_text lines =
    parts (codes ".if \\n(.t<" ∷ decimal lines ∷ codes "v .if " ∷ decimal lines ∷ codes "v<\\n(.p .ne " ∷ decimal lines ∷ [])
    ++ codes "v\n"

abbrev pub room_to : Layout → ℕ → ℕ → List ℕ
room_to l r last = room_text (sum (row_end l last - row_line l r) 1)

abbrev pub needs_room : Layout → ℕ → ℕ → Bool
needs_room l r last = (not (last == r) || nat_lt 1 (lines_of (tall l r))) && not (is_kept l)

abbrev pub room_if : Layout → ℕ → ℕ → List ℕ
room_if l r last = if needs_room l r last then room_to l r last else []

abbrev pub room : Layout → ℕ → List ℕ
room l r = room_if l r (last_below l r)

-- ---- before and after the lines

-- the register `*box` says to macros of the page that a table is in a box
abbrev pub boxed : Layout → List ℕ
boxed l = text_if (is_boxed l.grid.table) (codes ".nr *box 1\n")

-- `*O` is the indent with which a table stands in the middle of the line
abbrev pub middle : Layout → List ℕ
middle l =
    line (codes ".nr *O \\n(.l-\\n(.i-" ∷ decimal (table_end l.grid) ∷ codes "n/48*24" ∷ [])
    ++ codes ".in +\\n(*Ou\n"

abbrev pub centered : Layout → List ℕ
centered l = if l.grid.table.looks.center then middle l else []

abbrev pub whole_room : Layout → ℕ → Bool → List ℕ
whole_room l lines ends = if is_kept l && ends then need lines else []

-- `*u` and `*I` keep whether lines are filled, and the indent
abbrev pub head : Layout → ℕ → Bool → List ℕ
head l lines ends =
    codes ".br\n.nr *u \\n(.u\n.nr *I \\n(.i\n.nf\n" ++ boxed l ++ centered l ++ whole_room l lines ends

abbrev pub opening : Layout → Bool → ℕ → Bool → List ℕ
opening l opens lines ends = if opens then head l lines ends else []

abbrev pub tail : List ℕ
tail = codes ".in \\n(*Iu\n.if \\n(*u .fi\n"

abbrev pub closing : Bool → List ℕ
closing ends = if ends then tail else []

-- ---- requests between rows

-- one that may change filling or indent
abbrev pub moves : Layout → Item → Bool
moves l (items.Request s) = not (is_harmless (text_of l.grid.table s))
moves l i = false

abbrev pub moves_at : Layout → ℕ → Bool
moves_at l n = moves l (item l.grid.table n)

abbrev pub is_moved : Layout → Bool
is_moved l = some_below (length l.grid.table.items.items) (moves_at l)

abbrev pub indent : Layout → List ℕ
indent l = text_if (is_moved l) (codes ".nr *O \\n(.i\n")

-- these are set back after it
abbrev pub restored : List ℕ → List ℕ
restored text = text_if (not (is_harmless text)) (codes ".nf\n.in \\n(*Ou\n")

abbrev pub request : Layout → Span → List ℕ
request l s = line (text_of l.grid.table s ∷ []) ++ restored (text_of l.grid.table s)

-- ---- strings and registers that the blocks of a row define go out before it

abbrev pub definition : List ℕ → List ℕ
definition text = if defines text then line (text ∷ []) else []

-- of the lines of a text, of which so much of the first was read
abbrev pub definitions_in : List ℕ → List ℕ → List ℕ
definitions_in before [] = definition before
definitions_in before (b ∷ bs) =
    if b == code "\n" then definition before ++ definitions_in [] bs else definitions_in (before ++ b ∷ []) bs

-- the line that ends at a place, of which so much stands before it
abbrev pub ends_at : List ℕ → ℕ → Bool
ends_at text at = get_or text at 0 == code "\n"

abbrev pub definition_at : List ℕ → ℕ → ℕ → List ℕ
definition_at text from at = if ends_at text at then definition (take (at - from) (drop from text)) else []

abbrev pub from_after : List ℕ → ℕ → ℕ → ℕ
from_after text from at = if ends_at text at then at + 1 else from

abbrev pub definitions_if : Bool → List ℕ → List ℕ
definitions_if defines text = if defines then definitions_in [] text else []

abbrev pub definitions_of : Option Block → List ℕ → List ℕ
definitions_of None text = []
definitions_of (Some b) text = definitions_if b.defines text

abbrev pub definitions_at : Layout → ℕ → ℕ → List ℕ
definitions_at l first n =
    let f = cell_of l.grid (first + n) in
    definitions_of (block_of l.grid f) (text_of l.grid.table f.field.span)

abbrev pub definitions : Layout → ℕ → List ℕ
definitions l r =
    let p = placed l.grid r in
    joined (p.cells_end - p.cells) (definitions_at l p.cells)

-- ---- fields that stand in no column: below their row, in one line, with blanks between them

abbrev pub in_line : ℕ → ℕ
in_line b = if b == code "\n" then code " " else b

abbrev pub outside_text : Layout → ℕ → List ℕ
outside_text l n = map in_line (text_of l.grid.table (field l.grid.table n).span)

abbrev pub blank : ℕ → List ℕ
blank n = text_if (nat_lt 0 n) (codes " ")

abbrev pub next_outside : Layout → ℕ → ℕ → List Stroke
next_outside l first n = Bytes (blank n) ∷ Text (outside_text l (sum first n)) ∷ []

abbrev pub all_outside : Layout → ℕ → ℕ → List Stroke
all_outside l first count = joined count (next_outside l first)

abbrev pub beyond : Layout → ℕ → List Stroke
beyond l r =
    let first = (placed l.grid r).beyond in
    Bytes (codes "\\&") ∷ all_outside l first ((row l.grid.table r).«end» - first) ++ Bytes (codes "\n") ∷ []

-- ---- lines

abbrev pub row_lines : Layout → ℕ → ℕ → List Stroke
row_lines l r n = whole (row_strokes l r n) ++ more_lines (lines_of (tall l r) - 1) l r n

abbrev pub drawn_on : Layout → ℕ → StepKind → List Stroke
drawn_on l n (steps.Before r) = Bytes (definitions l r) ∷ Bytes (room l r) ∷ []
drawn_on l n (steps.Beyond r) = beyond l r
drawn_on l n (steps.Request s) = Bytes (request l s) ∷ []
drawn_on l n (steps.Bars r count) = bars_lines count l r n
drawn_on l n (steps.Edge above) = whole (edge_strokes l above)
drawn_on l n (steps.Rule above below) = whole (rule_strokes l above below n)
drawn_on l n (steps.Row r) = row_lines l r n

abbrev pub step_strokes : Layout → Step → List Stroke
step_strokes l s = drawn_on l s.line s.kind

abbrev pub nth_strokes : Layout → ℕ → List Stroke
nth_strokes l n = step_strokes l (step l n)

abbrev pub steps_strokes : Layout → List Stroke
steps_strokes l = joined (length l.steps.items) (nth_strokes l)

abbrev pub lines_strokes : Layout → Bool → ℕ → Bool → List Stroke
lines_strokes l opens lines ends =
    Bytes (opening l opens lines ends) ∷ Bytes (indent l) ∷ steps_strokes l ++ Bytes (closing ends) ∷ []
