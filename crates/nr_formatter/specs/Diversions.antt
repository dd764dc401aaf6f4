-- Diversions. (CSTR 54, section 7.4; groff manual, diversions.)
use Rattle.std.specs.Prelude.{ℕ, ◌+◌, min, ◌&&◌, if◌then◌else◌, List, [], ◌∷◌, ◌++◌, replicate, Option, None, Some, pos, int_lt, int_le}
use Rattle.nr_vectors.specs.declared.cell.Cell.{Cell}
use Rattle.nr_symbol_tables.specs.declared.trap.Trap.{Trap}
use Rattle.nr_store.specs.declared.element.Diversion.{Diversion}
use Rattle.nr_store.specs.declared.element.Element.TheVariants as elements
use Rattle.nr_store.specs.Store.{begun, text_of, fresh, added, blank_cell, diverted, diverted_end, trapped, newest_diversion, diversion_ended}
use Rattle.nr_settings.specs.Arguments.{name_in}
use Rattle.nr_settings.specs.Traps as traps
use Rattle.nr_settings.specs.declared.traps.DiversionTrap.{DiversionTrap}
use Rattle.nr_settings.specs.declared.traps.DiversionTrap.TheVariants.{Set as SetTrap, Remove, Nothing}
use Rattle.nr_formatter.specs.declared.formatter.Formatter.{Formatter}
use Rattle.nr_formatter.specs.declared.tasks.Task.TheVariants as tasks
use Rattle.nr_formatter.specs.Access.{line, long, spacing, diversion}
use Rattle.nr_formatter.specs.Places.{lowest, present_place, diversion_room}
use Rattle.nr_formatter.specs.Pages.{without_no_space}
use Rattle.nr_formatter.specs.declared.lines.Going.{Going}
use Rattle.nr_formatter.specs.DiversionRow.{diverted_cells}
use Rattle.nr_formatter.specs.Lines.{row_going, after_line}
use Rattle.nr_formatter.specs.Titles.{title_row, title_set}

-- ---- lines go into a diversion

-- the macro of a trap that lies below one place and not below another
abbrev pub trap_between : ℕ → ℕ → Option Trap → Option (List ℕ)
trap_between from to None = None
trap_between from to (Some t) =
    if int_lt (pos from) t.place && int_le t.place (pos to) then Some t.name else None

-- the diversion's trap, where a line of this height reaches it
abbrev pub trap_reached : ℕ → Option Diversion → Option (List ℕ)
trap_reached height None = None
trap_reached height (Some d) = trap_between d.height (min (d.height + height) lowest) d.trap

-- A line goes in with its height: blanks, cells, and its end. The diversion's trap springs where the line reaches it.
abbrev pub with_diverted : ℕ → List Cell → ℕ → Formatter → Formatter
with_diverted indent cells height f =
    record f { store = diverted indent cells height f.store; springs = trap_reached height (diversion f) }

-- a row goes in as a line as high as lines are, and ends no-space mode
abbrev pub with_diverted_row : List Cell → Formatter → Formatter
with_diverted_row cells f = with_diverted 0 cells (spacing f) (without_no_space f)

-- the line that goes out next goes in: its indent as blanks, no page offset
abbrev pub divert_line : Going → Formatter → Formatter
divert_line going f = with_diverted_row (diverted_cells (row_going going 0 f)) (after_line going f)

-- and so does the title that was read
abbrev pub divert_title : Formatter → Formatter
divert_title f = with_diverted_row (diverted_cells (title_row 0 f)) (title_set f)

-- space goes in, to the diversion's trap at most
abbrev pub with_diverted_space : ℕ → Formatter → Formatter
with_diverted_space n f = record (with_diverted 0 [] (min n (diversion_room f)) f) { task = tasks.Read }

-- a diverted line that is read again goes in cell by cell, the first after its indent
abbrev pub with_diverted_cell : ℕ → Cell → Formatter → Formatter
with_diverted_cell indent cell f =
    record f { store = added (replicate indent blank_cell ++ elements.Cell cell ∷ []) f.store }

-- and ends, so many cells wide and so high
abbrev pub with_diverted_end : ℕ → ℕ → Formatter → Formatter
with_diverted_end cells height f = record (without_no_space f) {
  store = diverted_end cells height f.store;
  springs = trap_reached height (diversion f);
  task = tasks.Read;
}

-- ---- requests

-- `dn` and `dl` hold the height and the greatest width of the diversion that ends
abbrev pub measured : Option Diversion → Formatter → Formatter
measured None f = f
measured (Some d) f =
    record f
    { given = record f.given { height = pos (min d.height lowest); width = pos (min d.width lowest) } }

abbrev pub end_diversion : Formatter → Formatter
end_diversion f = measured (newest_diversion f.store.building) (record f { store = diversion_ended f.store })

-- `.di xx`: lines go into a new text; without xx the innermost diversion ends
abbrev pub divert_to : Option (List ℕ) → Formatter → Formatter
divert_to None f = end_diversion f
divert_to (Some name) f = record f { store = begun [] (Some (fresh name)) f.store }

abbrev pub di : Formatter → Formatter
di f = record (divert_to (name_in (long f) (line f)) f) { task = tasks.Read }

-- `.da xx`: lines go after the text that xx has
abbrev pub append_to : Option (List ℕ) → Formatter → Formatter
append_to None f = end_diversion f
append_to (Some name) f = record f { store = begun (text_of name f.store) (Some (fresh name)) f.store }

abbrev pub da : Formatter → Formatter
da f = record (append_to (name_in (long f) (line f)) f) { task = tasks.Read }

-- `.dt N xx`: the diversion's trap; without arguments none
abbrev pub with_diversion_trap : DiversionTrap → Formatter → Formatter
with_diversion_trap (SetTrap place name) f =
    record f { store = trapped (Some (record { place = place; name = name })) f.store }
with_diversion_trap Remove f = record f { store = trapped None f.store }
with_diversion_trap Nothing f = f

abbrev pub dt : Formatter → Formatter
dt f = record (with_diversion_trap (traps.dt (line f) (long f) (spacing f) (present_place f)) f)
    { task = tasks.Read }
