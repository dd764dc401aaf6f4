-- The machine: marked-up text into pages, by small moves over the whole input.
use Rattle.std.specs.Prelude.{ℕ, zero, suc, ◌+◌, ◌-◌, ◌/◌, ◌^◌, min, Bool, not, if◌then◌else◌, List, [], ◌∷◌, ◌++◌, length, replicate, Option, None, Some, is_none, ℤ}
use Rattle.nr_vectors.specs.Cell.{blank, trimmed}
use Rattle.nr_vectors.specs.declared.cell.Cell.{Cell}
use Rattle.nr_fill.specs.Piece.{is_nil}
use Rattle.nr_page.specs.Grid.{Placed}
use Rattle.nr_store.specs.Store.{is_held}
use Rattle.nr_store.specs.declared.request.Request.{Request}
use Rattle.nr_store.specs.declared.request.Request.TheVariants as requests
use Rattle.nr_reading.specs.declared.event.Event.{Event}
use Rattle.nr_reading.specs.declared.event.Event.TheVariants as events
use Rattle.nr_reading.specs.Setting.{not_continued}
use Rattle.nr_input.specs.Acting.{on_half}
use Rattle.nr_input.specs.Place.{emptied}
use Rattle.nr_input.specs.Moving.{Situation, Move, situation, move as input_move}
use Rattle.nr_input.specs.declared.emitted.Emitted.{Emitted}
use Rattle.nr_input.specs.declared.emitted.Emitted.TheVariants as tells
use Rattle.nr_formatter.specs.declared.formatter.Formatter.{Formatter}
use Rattle.nr_formatter.specs.declared.lines.Going.{Going}
use Rattle.nr_formatter.specs.declared.paper.Outlet.{Outlet}
use Rattle.nr_formatter.specs.declared.paper.Outlet.TheVariants as outlets
use Rattle.nr_formatter.specs.declared.tasks.After.{After}
use Rattle.nr_formatter.specs.declared.tasks.Ejected.{Ejected}
use Rattle.nr_formatter.specs.declared.tasks.Resume.{Resume}
use Rattle.nr_formatter.specs.declared.tasks.Room.{Room}
use Rattle.nr_formatter.specs.declared.tasks.Task.{Task}
use Rattle.nr_formatter.specs.declared.tasks.Task.TheVariants as tasks
use Rattle.nr_formatter.specs.declared.tasks.Then.{Then}
use Rattle.nr_symbol_tables.specs.declared.trap.Trap.{Trap}
use Rattle.nr_formatter.specs.Access.{collected, spacing, done}
use Rattle.nr_formatter.specs.Places.{outlet, to_read}
use Rattle.nr_formatter.specs.Lines.{flow_line, break_line, row_going, after_line, flow_done, break_word_end, break_done}
use Rattle.nr_formatter.specs.Pages.{begins_first_page, place_after, line_placed, page_begun, page_ended, is_ejecting, task_ejected, next_springing}
use Rattle.nr_formatter.specs.Spacing.{is_spaceless, spaced}
use Rattle.nr_formatter.specs.Diversions.{divert_line, divert_title, with_diverted_space, with_diverted_cell, with_diverted_end}
use Rattle.nr_formatter.specs.Titles.{title_row, title_set}
use Rattle.nr_formatter.specs.Registers.{register_set}
use Rattle.nr_formatter.specs.Springing.{sprung, ejected_to, resumed}
use Rattle.nr_formatter.specs.Ending.{ex}
use Rattle.nr_formatter.specs.Moves.{heard, worked, read_in}
use Rattle.nr_machine.specs.Printing.{selects}
use Rattle.nr_machine.specs.State.{State, Ended, Choice, First, Register, plainly}

-- ---- before the input

-- the first page's number: one that no register holds sets nothing
abbrev pub first_set : ℤ → Formatter → Formatter
first_set n f = if is_held n then record f { paper = record f.paper { number = n } } else f

abbrev pub choose : Choice → Formatter → Formatter
choose (First n) f = first_set n f
choose (Register name n) f = register_set (name ∷ []) n None f

-- ---- reading: the next item is looked at, and taken or left; or what is pending is done

abbrev pub situation_of : State → Situation Resume
situation_of s = situation s.formatter.store s.coming s.formatter.reader

-- what was read is acted on then; what a sprung macro interrupted is gone on with
abbrev pub emitted : Emitted Resume → Formatter → Formatter
emitted (tells.Event e) f = record f { event = e }
emitted (tells.Resume r) f = resumed r f

abbrev pub with_situation : Move Resume → State → State
with_situation m s = record s {
  coming = m.situation.coming;
  formatter = emitted m.emitted (record s.formatter { store = m.situation.stored; reader = m.situation.reader });
}

abbrev pub read : State → State
read s = with_situation (input_move (situation_of s)) s

-- ---- pages

abbrev pub begin_page : State → State
begin_page s = record s { formatter = page_begun s.formatter; lines = [] }

-- as many rows as the page length holds now
abbrev pub page_of : State → Ended
page_of s =
    record {
      printed = selects s.select s.formatter.paper.number;
      faces = s.faces;
      rows = s.formatter.settings.pages.page_length / 40;
      lines = s.lines;
    }

abbrev pub end_page : State → State
end_page s = record s { formatter = page_ended s.formatter; lines = []; pages = s.pages ++ page_of s ∷ [] }

-- a full page ends, and where none is open one begins
abbrev pub turn_page : Outlet → State → State
turn_page outlets.Full s = end_page s
turn_page o s = begin_page s

-- the row of a line that ends at this place
abbrev pub row_at : ℕ → ℕ
row_at place = place / 40 - 1

-- the line that these cells make, of this height
abbrev pub placed : List Cell → ℕ → Formatter → Placed
placed cells height f = record { row = row_at (place_after height f); cells = trimmed cells }

-- a row goes on the page as a line of this height, and the formatter is this one then
abbrev pub place : List Cell → ℕ → Formatter → State → State
place cells height f s =
    record s { formatter = line_placed height f; row = []; lines = s.lines ++ placed cells height f ∷ [] }

-- the page offset, in cells
abbrev pub offset : Formatter → ℕ
offset f = f.settings.indents.page_offset.value / 24

-- ---- lines

abbrev pub put_line_to : Outlet → Going → State → State
put_line_to outlets.Diversion g s = plainly (divert_line g) s
put_line_to outlets.Room g s =
    place (row_going g (offset s.formatter) s.formatter) (spacing s.formatter) (after_line g s.formatter) s
put_line_to o g s = turn_page o s

-- the line that goes out is diverted, or finds room and is placed
abbrev pub put_line : Going → State → State
put_line g s = put_line_to (outlet s.formatter) g s

abbrev pub put_or : Option Going → (Formatter → Formatter) → State → State
put_or None done s = plainly done s
put_or (Some g) done s = put_line g s

-- full lines go out, and then all, where that is asked for
abbrev pub flow : After → Bool → State → State
flow after breaks s = put_or (flow_line after breaks s.formatter) (flow_done after) s

-- the word ends, the first page begins, and all that is collected goes out
abbrev pub break_part : Then → State → State
break_part t s =
    if not (is_none (collected s.formatter).word) then plainly break_word_end s
    else (if begins_first_page t s.formatter then begin_page s
    else put_or (break_line s.formatter) (break_done t) s)

-- what `\c` continues ends
abbrev pub continues_none : Formatter → Formatter
continues_none f = record f { reader = on_half not_continued f.reader }

-- A break ends what `\c` continues, and so what a trap's macro leaves to be continued while it is under way.
abbrev pub break_out : Then → State → State
break_out t s = break_part t (plainly continues_none s)

-- ---- titles, diverted lines and space

-- a title or a diverted line makes room, and is read then
abbrev pub room_in : Outlet → Room → State → State
room_in outlets.Diversion r s = plainly (read_in r) s
room_in outlets.Room r s = plainly (read_in r) s
room_in o r s = turn_page o s

abbrev pub title_to : Outlet → State → State
title_to outlets.Diversion s = plainly divert_title s
title_to outlets.Room s =
    place (title_row (offset s.formatter) s.formatter) (spacing s.formatter) (title_set s.formatter) s
title_to o s = turn_page o s

-- the indent of a diverted line that is read again, and on a page the page offset, in cells
abbrev pub indent : Formatter → ℕ
indent f = f.settings.indents.indent.value / 24

-- The first cell stands after so many blanks.
abbrev pub with_cell : ℕ → Cell → List Cell → List Cell
with_cell margin x row = if is_nil row then replicate margin blank ++ x ∷ [] else row ++ x ∷ []

abbrev pub margin_in : ℕ → List Cell → ℕ
margin_in margin row = if is_nil row then margin else 0

abbrev pub cell_to : Outlet → Cell → State → State
cell_to outlets.Diversion x s = record s {
  formatter = done (with_diverted_cell (margin_in (indent s.formatter) s.row) x s.formatter);
  row = with_cell (indent s.formatter) x s.row;
}
cell_to o x s = record s {
  formatter = done s.formatter;
  row = with_cell (offset s.formatter + indent s.formatter) x s.row;
}

-- how many cells a row has without the blanks at its end, as far as they are counted
abbrev pub width : List Cell → ℕ
width row = min (length (trimmed row)) (2 ^ 32 - 1)

abbrev pub line_to : Outlet → ℕ → State → State
line_to outlets.Diversion height s =
    record s { formatter = with_diverted_end (width s.row) height s.formatter; row = [] }
line_to outlets.Room height s = place s.row height (to_read s.formatter) s
line_to o height s = turn_page o s

abbrev pub space_to : Outlet → ℕ → State → State
space_to outlets.Diversion n s = plainly (with_diverted_space n) s
space_to outlets.Room n s = plainly (spaced n) s
space_to o n s = turn_page o s

abbrev pub put_space : ℕ → State → State
put_space n s = if is_spaceless n s.formatter then plainly to_read s else space_to (outlet s.formatter) n s

-- ---- ejecting

abbrev pub eject_to : Option Trap → State → State
eject_to None s = end_page s
eject_to (Some trap) s = plainly (ejected_to trap) s

-- the page goes to the next trap, whose macro springs, and with none left it ends
abbrev pub eject : Ejected → State → State
eject e s =
    if is_ejecting s.formatter then eject_to (next_springing s.formatter) s
    else plainly (λ f. record f { task = task_ejected e }) s

-- ---- `.ex`: nothing is to come of the source, and the levels are empty

abbrev pub exit : State → State
exit s = record s { coming = emptied s.coming; formatter = ex s.formatter }

abbrev pub act : Request → State → State
act requests.Ex s = exit s
act r s = plainly (worked (tasks.Act r)) s

-- ---- a move

-- what is under way goes on
abbrev pub work : Task → State → State
work tasks.Read s = read s
work (tasks.Flow after breaks) s = flow after breaks s
work (tasks.Break t) s = break_out t s
work (tasks.Act r) s = act r s
work (tasks.Room r) s = room_in (outlet s.formatter) r s
work tasks.Title s = title_to (outlet s.formatter) s
work (tasks.Line height) s = line_to (outlet s.formatter) height s
work (tasks.Space n) s = put_space n s
work (tasks.Begin given) s = begin_page s
work (tasks.Eject e) s = eject e s
work tasks.Halted s = s
work t s = plainly (worked t) s

-- what was read is acted on; a cell of a diverted line that is read again goes into its row
abbrev pub hear : Event → State → State
hear events.Nothing s = work s.formatter.task s
hear (events.DivertedCell x) s = cell_to (outlet s.formatter) x s
hear e s = plainly (heard e) s

-- the macro that is to be sprung springs
abbrev pub spring_or : Option (List ℕ) → State → State
spring_or None s = hear s.formatter.event s
spring_or (Some name) s = plainly (sprung name) s

abbrev pub choose_or : List Choice → State → State
choose_or [] s = spring_or s.formatter.springs s
choose_or (c ∷ cs) s = record s { chosen = cs; formatter = choose c s.formatter }

-- one move
unfoldable pub step : State → State
step s = choose_or s.chosen s

-- after n moves
abbrev pub state_after : ℕ → State → State
state_after zero s = s
state_after (suc n) s = step (state_after n s)
