-- Pages: beginning, what is placed, ejecting, ending. (CSTR 54, section 3; on traps section 7.5.)
use Rattle.std.specs.Prelude.{[], ◌∷◌, ℕ, ◌+◌, min, Bool, true, false, not, ◌&&◌, ◌||◌, if◌then◌else◌, List, Option, None, Some, is_some, ℤ, pos, negsuc, ◌+ℤ◌, int_lt, int_le}
use Rattle.std.specs.List.{filter}
use Rattle.std.specs.Ordering.{int_eq}
use Rattle.nr_symbol_tables.specs.Table.{find}
use Rattle.nr_symbol_tables.specs.Trap.{nearest, on_page}
use Rattle.nr_symbol_tables.specs.declared.trap.Trap.{Trap}
use Rattle.nr_store.specs.Store.{words}
use Rattle.nr_store.specs.declared.request.Request.TheVariants as requests
use Rattle.nr_formatter.specs.declared.formatter.Formatter.{Formatter}
use Rattle.nr_formatter.specs.declared.paper.PageState.{PageState}
use Rattle.nr_formatter.specs.declared.paper.PageState.TheVariants.{Unbegun, Open, Closed}
use Rattle.nr_formatter.specs.declared.paper.Paper.{Paper}
use Rattle.nr_formatter.specs.declared.tasks.Ejected.{Ejected}
use Rattle.nr_formatter.specs.declared.tasks.Ejected.TheVariants as ejecteds
use Rattle.nr_formatter.specs.declared.tasks.Task.{Task}
use Rattle.nr_formatter.specs.declared.tasks.Task.TheVariants as tasks
use Rattle.nr_formatter.specs.declared.tasks.Then.{Then}
use Rattle.nr_formatter.specs.declared.tasks.Then.TheVariants as thens
use Rattle.nr_formatter.specs.Access.{diversion}
use Rattle.nr_formatter.specs.Places.{lowest, is_open, is_diverting, trap_below}

-- ---- the first page

-- it begins with the first break, but not with that of `.bp` or of the end
abbrev pub begins_page : Then → Bool
begins_page (thens.Act requests.Bp) = false
begins_page thens.Finish = false
begins_page t = true

abbrev pub is_unbegun : PageState → Bool
is_unbegun Unbegun = true
is_unbegun Open = false
is_unbegun Closed = false

abbrev pub begins_first_page : Then → Formatter → Bool
begins_first_page t f = is_unbegun f.paper.state && (begins_page t && not (is_diverting (diversion f)))

-- ---- moves down the page

-- the place at which a line of this height ends
abbrev pub place_after : ℕ → Formatter → ℕ
place_after height f = min (f.paper.place + height) lowest

-- the macro of a trap that a move to this place reaches
abbrev pub reached : ℕ → Option Trap → Option (List ℕ)
reached place None = None
reached place (Some t) = if int_le t.place (pos place) then Some t.name else None

-- A move down the page springs the nearest trap that it passes or reaches, and only that.
abbrev pub moved_to : ℕ → Formatter → Formatter
moved_to place f =
    record f {
      paper = record f.paper { place = place };
      springs = reached place (trap_below f.paper.place f);
    }

abbrev pub without_no_space : Formatter → Formatter
without_no_space f =
    record f { settings = record f.settings { pages = record f.settings.pages { no_space = false } } }

-- a line of this height was placed; it ends no-space mode
abbrev pub line_placed : ℕ → Formatter → Formatter
line_placed height f = moved_to (place_after height f) (without_no_space f)

-- ---- beginning

abbrev pub task_begun : Task → Task
task_begun (tasks.Begin None) = tasks.Read
task_begun (tasks.Begin (Some given)) = tasks.Turn given
task_begun t = t

-- a page begins at its top, and the trap there springs
abbrev pub page_begun : Formatter → Formatter
page_begun f = record f {
  paper = record f.paper { state = Open; place = 0; ejecting = false };
  springs = reached 0 (nearest (negsuc 0) (pos f.settings.pages.page_length) f.store.traps);
  task = task_begun f.task;
}

-- ---- ending

-- the number after 2147483647 is that again
abbrev pub number_after : Option ℤ → ℤ → ℤ
number_after None n = if int_lt n (pos 2147483647) then n +ℤ pos 1 else n
number_after (Some m) n = m

abbrev pub following : Paper → ℤ
following p = number_after p.next p.number

abbrev pub task_ejected : Ejected → Task
task_ejected ejecteds.Request = tasks.Read
task_ejected ejecteds.Finish = tasks.Halted

abbrev pub task_ended : Task → Task
task_ended (tasks.Eject e) = task_ejected e
task_ended t = t

abbrev pub page_ended : Formatter → Formatter
page_ended f = record f {
  paper = record { state = Closed; number = following f.paper; next = None; place = 0; ejecting = false };
  task = task_ended f.task;
}

-- ---- ejecting

-- No-space mode keeps a request without a number from it.
abbrev pub turned : Bool → Formatter → Formatter
turned given f =
    if is_open f.paper.state && (given || not f.settings.pages.no_space)
    then record f { paper = record f.paper { ejecting = true }; task = tasks.Eject ejecteds.Request }
    else record f { task = tasks.Read }

-- the page that is being ejected is still open
abbrev pub is_ejecting : Formatter → Bool
is_ejecting f = is_open f.paper.state && f.paper.ejecting

-- The page goes from trap to trap, as far as their names have texts; of the traps at a place the first planted counts.
abbrev pub macro_at : ℤ → ℤ → List Trap → Option (List ℕ)
macro_at length place [] = None
macro_at length place (t ∷ ts) =
    if int_eq (on_page t.place length) place then Some t.name else macro_at length place ts

abbrev pub names_text : List ℕ → Formatter → Bool
names_text name f = is_some (words (find name f.store.names))

abbrev pub is_text : Option (List ℕ) → Formatter → Bool
is_text None f = false
is_text (Some name) f = names_text name f

-- the macro at a place of the page springs
abbrev pub springs_at : Formatter → ℤ → Bool
springs_at f place = is_text (macro_at (pos f.settings.pages.page_length) place f.store.traps) f

abbrev pub springing_traps : Formatter → List Trap
springing_traps f =
    filter (λ t. springs_at f (on_page t.place (pos f.settings.pages.page_length))) f.store.traps

-- the next trap below whose macro springs
abbrev pub next_springing : Formatter → Option Trap
next_springing f = nearest (pos f.paper.place) (pos f.settings.pages.page_length) (springing_traps f)
