-- How many moves may still come before the next byte of the source is taken.
use Rattle.std.specs.Prelude.{◌≡◌, ℕ, ◌+◌, ◌-◌, ◌*◌, ◌≤◌, List, length, Option, None, Some, sum_by}
use Rattle.nr_fill.specs.Piece.{Collected, Word}
use Rattle.nr_fill.specs.declared.stops.Pending.{Pending}
use Rattle.nr_fill.specs.declared.stops.Pending.TheVariants as pendings
use Rattle.nr_store.specs.declared.element.Diversion.{Diversion}
use Rattle.nr_store.specs.Store.{Built}
use Rattle.nr_reading.specs.declared.event.Event.{Event}
use Rattle.nr_reading.specs.declared.event.Event.TheVariants as events
use Rattle.nr_reading.specs.declared.half.Half.{Half}
use Rattle.nr_reading.specs.declared.mode.Mode.TheVariants as modes
use Rattle.nr_reading.specs.Conditionals.{in_mode}
use Rattle.nr_reading.specs.Weights.{cost_of_text, cost_of_event, weight_of_text, weight_of_half, blanks_owed}
use Rattle.nr_input.specs.Place.{Reached}
use Rattle.nr_input.specs.Weights.{cost_of_defining, weight_before_byte}
use Rattle.nr_formatter.specs.declared.formatter.Formatter.{Formatter}
use Rattle.nr_formatter.specs.declared.paper.Outlet.{Outlet}
use Rattle.nr_formatter.specs.declared.paper.Outlet.TheVariants as outlets
use Rattle.nr_formatter.specs.declared.tasks.Room.TheVariants as rooms
use Rattle.nr_formatter.specs.declared.tasks.Step.{Step}
use Rattle.nr_formatter.specs.declared.tasks.Step.TheVariants as steps
use Rattle.nr_formatter.specs.declared.tasks.Task.{Task}
use Rattle.nr_formatter.specs.declared.tasks.Task.TheVariants as tasks
use Rattle.nr_formatter.specs.declared.tasks.Then.{Then}
use Rattle.nr_formatter.specs.declared.tasks.Then.TheVariants as thens
use Rattle.nr_formatter.specs.Access.{collected}
use Rattle.nr_formatter.specs.Places.{page_outlet}

-- ---- the line

-- a piece may go out alone, and a page end and another begin with it
abbrev pub cost_of_piece : ℕ
cost_of_piece = 5

-- A word may end as 32 pieces more than it has parts, by 31 points of `.hw`; 10 are for the move that ends it.
abbrev pub cost_of_word : ℕ
cost_of_word = 32 * cost_of_piece + 10

abbrev pub weight_of_pending : Pending → ℕ
weight_of_pending (pendings.ForStop f) = 1
weight_of_pending p = 0

abbrev pub weight_of_word : Option Word → ℕ
weight_of_word None = 0
weight_of_word (Some w) = cost_of_word + cost_of_piece * length w.parts + weight_of_pending w.pending

abbrev pub weight_of_line : Collected → ℕ
weight_of_line c = cost_of_piece * length c.pieces + weight_of_word c.word

-- ---- the page: a full one ends, and where there is none one begins

abbrev pub weight_of_outlet : Outlet → ℕ
weight_of_outlet outlets.Full = 3
weight_of_outlet outlets.NoPage = 2
weight_of_outlet o = 0

abbrev pub weight_of_page : Formatter → ℕ
weight_of_page f = weight_of_outlet (page_outlet f.paper.state f.paper.place f.settings.pages.page_length)

-- ---- diversions: each one that is open ends at the end

abbrev pub weight_of_diversion : Option Diversion → ℕ
weight_of_diversion None = 0
weight_of_diversion (Some d) = 1

abbrev pub weight_of_built : Built → ℕ
weight_of_built b = weight_of_diversion b.diversion

abbrev pub weight_of_diversions : List Built → ℕ
weight_of_diversions bs = sum_by weight_of_built bs

abbrev pub weight_of_name : Option (List ℕ) → ℕ
weight_of_name None = 0
weight_of_name (Some name) = 1

-- ---- what is under way: it weighs more than what it leads to

-- each step of the end leaves 10 for what is under way until the next
abbrev pub weight_of_step : Step → ℕ
weight_of_step steps.NotYet = 50
weight_of_step steps.FirstBreak = 40
weight_of_step steps.Macro = 30
weight_of_step steps.SecondBreak = 20
weight_of_step steps.Diversions = 10
weight_of_step steps.LastPage = 0

-- a break of the end goes a step on, where the end is at a break
abbrev pub weight_of_last_break : Step → ℕ
weight_of_last_break steps.FirstBreak = 1
weight_of_last_break steps.SecondBreak = 1
weight_of_last_break s = 3

abbrev pub weight_of_break : Then → Step → ℕ
weight_of_break (thens.Act r) s = 27
weight_of_break thens.Space s = 11
weight_of_break thens.Leading s = 6
weight_of_break thens.Diverted s = 8
weight_of_break thens.Finish s = weight_of_last_break s

-- the second cell of a dash may begin a word, as the first
abbrev pub weight_of_dash : ℕ
weight_of_dash = cost_of_text + 12

abbrev pub weight_of_task : Task → Step → ℕ
weight_of_task tasks.Read s = 4
weight_of_task tasks.Dash s = weight_of_dash
weight_of_task (tasks.Flow after breaks) s = 8
weight_of_task tasks.Count s = 7
weight_of_task tasks.InputTrap s = 6
weight_of_task (tasks.Break t) s = weight_of_break t s
weight_of_task (tasks.Act r) s = 25
weight_of_task (tasks.Room r) s = 6
weight_of_task tasks.Title s = 9
weight_of_task (tasks.Line height) s = 9
weight_of_task (tasks.Space n) s = 9
weight_of_task (tasks.Begin None) s = 6
weight_of_task (tasks.Begin (Some given)) s = 11
weight_of_task (tasks.Turn given) s = 9
weight_of_task (tasks.Eject e) s = 7
weight_of_task tasks.Finish s = 2
weight_of_task tasks.Halted s = 0

-- what an event may set to be read next: text at most, as a title's
abbrev pub owed_by_event : Event → ℕ
owed_by_event events.Request = weight_of_text
owed_by_event (events.Judge q) = weight_of_text
owed_by_event events.Title = weight_of_text
owed_by_event events.Diverted = 1
owed_by_event e = 0

-- What the move that emitted it has paid for those who act on it. A blank of a line's beginning is paid by those that are owed.
abbrev pub weight_of_event : Event → ℕ
weight_of_event events.Lead = cost_of_text - 1
weight_of_event e = cost_of_event e - (1 + owed_by_event e)

-- what was read is acted on before what is under way goes on; the end of the input takes the place of it
abbrev pub weight_of_agenda : Event → Task → Step → ℕ
weight_of_agenda events.Nothing t s = weight_of_task t s
weight_of_agenda events.Over t s = 3
weight_of_agenda e t s = weight_of_event e + weight_of_task t s

-- the moves that come before more is read
unfoldable pub steps_left : Formatter → ℕ
steps_left f =
    weight_of_agenda f.event f.task f.step + weight_of_name f.springs + weight_of_line (collected f)
    + weight_of_page f + weight_of_diversions f.store.building + weight_of_step f.step

-- ---- what may be set to be read next

abbrev pub owed_by_then : Then → ℕ
owed_by_then (thens.Act r) = cost_of_defining
owed_by_then thens.Diverted = 1
owed_by_then t = 0

abbrev pub owed_by_task : Task → Half → ℕ
owed_by_task (tasks.Act r) h = cost_of_defining
owed_by_task (tasks.Break t) h = owed_by_then t
owed_by_task (tasks.Room rooms.Line) h = 1
owed_by_task (tasks.Room rooms.Title) h = weight_of_half (in_mode modes.TitleBefore h) - weight_of_half h
owed_by_task t h = 0

unfoldable pub owed : Formatter → ℕ
owed f = owed_by_event f.event + owed_by_task f.task f.reader.half

-- ---- all of it

unfoldable pub weight : Reached → Formatter → ℕ
weight p f =
    weight_before_byte f.store p f.reader + cost_of_text * blanks_owed f.reader.half + owed f
    + steps_left f

-- What may still come fell by so many moves, but for so many that it rose by; what may come after a byte stays.
pub record Falls (down up : ℕ) (f g : Formatter) : Type 0 where
  pub limit : g.store.limit ≡ f.store.limit
  pub most : g.reader.most ≡ f.reader.most
  pub falls : (p : Reached) → weight p g + down ≤ weight p f + up
