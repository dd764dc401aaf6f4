-- How the engine holds a state of the machine.
use Rattle.std.specs.Prelude.{◌≡◌, ◌≢◌, ℕ, ◌+◌, ◌*◌, ◌≤◌, ◌<◌, Bool, false, List, [], ◌∷◌, ◌++◌, Option, None, Some, Result, Ok, Err, OnOk}
use Rattle.std.specs.Io.KnownBytes.{Appends, Keeps}
use Rattle.nr_units.specs.Failures.{counted_if}
use Rattle.nr_units.specs.Source.{Supply}
use Rattle.nr_units.specs.Sink.{AppendsPrefix}
use Rattle.nr_vectors.specs.declared.cell.Cell.{Cell}
use Rattle.nr_fill.specs.CellRow.{Row, IsRow}
use Rattle.nr_page.specs.Grid.{Placed, page_charge}
use Rattle.nr_page.specs.Page.{Sheet, Holds as HoldsPage}
use Rattle.nr_page.specs.declared.faces.Faces.{Faces}
use Rattle.nr_page.specs.declared.selection.PageRange.{PageRange}
use Rattle.nr_reading.specs.declared.event.Event.TheVariants as events
use Rattle.nr_input.specs.Place.{Reached, HoldsComing, has_failed, is_read_fault}
use Rattle.nr_input.specs.Weights.{byte_worth}
use Rattle.nr_input.specs.declared.refusal.Refusal.{Refusal}
use Rattle.nr_formatter.specs.Weights as formatter
use Rattle.nr_formatter.specs.Pages.{line_placed}
use Rattle.nr_formatter.specs.Places.{outlet, page_outlet}
use Rattle.nr_formatter.specs.declared.formatter.Formatter.{Formatter}
use Rattle.nr_formatter.specs.declared.paper.Outlet.{Outlet}
use Rattle.nr_formatter.specs.declared.paper.Outlet.TheVariants as outlets
use Rattle.nr_formatter.specs.declared.tasks.Ejected.{Ejected}
use Rattle.nr_formatter.specs.declared.tasks.Task.{Task}
use Rattle.nr_formatter.specs.declared.tasks.Task.TheVariants as tasks
use Rattle.nr_machine.specs.State.{State, Ended, Choice}
use Rattle.nr_machine.specs.Machine.{step, state_after, exit, placed}
use Rattle.nr_machine.specs.Printing.{bytes_of, text}
use Rattle.nr_machine.specs.Measures.{IsWithin, passed}
use Rattle.nr_machine.specs.Run.{Goes, Stops, Ends, Runs, kind_of_task, stops_reading}
use Rattle.nr_machine.specs.Run as kinds
use Rattle.nr_machine.specs.declared.engine.Engine.{Engine}
use Rattle.nr_machine.specs.declared.outcome.Measure.{Measure}
use Rattle.nr_machine.specs.declared.outcome.Measure.TheVariants.{PageCells}
use Rattle.nr_machine.specs.declared.outcome.Outcome.{Outcome}
use Rattle.nr_machine.specs.declared.outcome.Outcome.TheVariants.{Done, Limit, ReadFault, TooLong, WriteFault}
use Rattle.nr_machine.specs.declared.outcome.Stop.{Stop}
use Rattle.nr_machine.specs.declared.outcome.Stop.TheVariants as stops

-- the engine without the facts that it keeps
pub record Shape : Type 0 where
  pub formatter : Formatter
  pub place : Reached
  pub row : Row
  pub page : Sheet
  pub select : Option (List PageRange)
  pub faces : Faces

abbrev pub shape : Engine → Shape
shape e = record {
  formatter = e.formatter;
  place = e.place;
  row = e.row;
  page = e.page;
  select = e.select;
  faces = e.faces;
}

-- the state with all that the engine keeps but pages
abbrev pub at : Shape → State → State
at e s = record s { formatter = e.formatter }

-- The engine, in front of a source that is about to give these bytes, stands at the state, but for what has gone out and what the
-- formatter keeps. Of the options some are still to be chosen.
pub record Stands (chosen : List Choice) (supply : Option Supply) (s : State) (e : Shape) : Type 0 where
  pub chosen_is : s.chosen ≡ chosen
  pub coming : HoldsComing s.coming e.place supply
  pub row : IsRow s.row e.row
  pub page : HoldsPage s.lines e.page
  pub page_limit : e.page.limit ≡ s.page_limit
  pub select : e.select ≡ s.select
  pub faces : e.faces ≡ s.faces
  pub within : IsWithin (at e s)

-- the engine holds the state, but for what has gone out
pub record Holds (chosen : List Choice) (supply : Option Supply) (s : State) (e : Shape) : Type 0 where
  pub formatter : e.formatter ≡ s.formatter
  pub stands : Stands chosen supply s e

-- ---- what falls with each move

-- what a byte that is taken pays
abbrev pub worth : Shape → ℕ
worth e = byte_worth e.formatter.reader.most e.formatter.store.limit

-- how many moves may still come before the next byte is taken
abbrev pub weight : Shape → ℕ
weight e = formatter.weight e.place e.formatter

-- A move was made: it is paid by the bytes that it took, or out of what may still come.
pub record Spends (e f : Shape) : Type 0 where
  pub limit : f.formatter.store.limit ≡ e.formatter.store.limit
  pub most : f.formatter.reader.most ≡ e.formatter.reader.most
  pub spends : weight f + 1 + worth e * e.place.taken ≤ weight e + worth e * f.place.taken

-- ---- what the next move does

-- the input is read next
pub record ReadsNext (f : Formatter) : Type 0 where
  pub springs : f.springs ≡ None
  pub event : f.event ≡ events.Nothing
  pub task : f.task ≡ tasks.Read

-- this is under way, and what was read was acted on
pub record IsUnderWay (t : Task) (f : Formatter) : Type 0 where
  pub idle : f.event ≡ events.Nothing
  pub task : f.task ≡ t

-- this is under way, and is neither reading nor the end of the run
pub record IsAtWork (t : Task) (f : Formatter) : Type 0 where
  pub under_way : IsUnderWay t f
  pub works : kind_of_task t ≡ kinds.Works

-- what goes out finds no room, and is not diverted
pub record NeedsPage (o : Outlet) (f : Formatter) : Type 0 where
  pub is : o ≡ outlet f
  pub no_room : o ≢ outlets.Room
  pub page : o ≢ outlets.Diversion

-- the open page is full, or it is being ejected
pub data IsEnding (f : Formatter) : Type 0 where
  IsFull : page_outlet f.paper.state f.paper.place f.settings.pages.page_length ≡ outlets.Full → IsEnding f
  IsEjected : (e : Ejected) → IsUnderWay (tasks.Eject e) f → IsEnding f

-- ---- parts of a move

-- the text of the pages grew by `more` between two states
pub record Grows (s t : State) (more : List ℕ) : Type 0 where
  pub grows : text t.pages ≡ text s.pages ++ more

-- the text of the pages grew between two states, and what it grew by went out
pub record Wrote (s t : State) (old new : Option (List ℕ)) : Type 0 where
  pub wrote : (more : List ℕ) × Grows s t more × Appends old new more

-- one page more ended between two states, and a prefix of it went out
pub record WrotePrefix (s t : State) (old new : Option (List ℕ)) : Type 0 where
  pub page : Ended
  pub ends : t.pages ≡ s.pages ++ page ∷ []
  pub prefix : AppendsPrefix old new (bytes_of page)

-- from s the machine comes to t: the engine holds t, or a limit or a write stops it
abbrev pub AfterWork : Option Supply → State → State → Shape → Option (List ℕ) → Option (List ℕ)
    → Result (Unit {0}) Stop → Type 0
AfterWork supply s t e old new (Ok x) = Holds [] supply t e × Wrote s t old new
AfterWork supply s t e old new (Err (stops.Limit which)) = (passed t ≡ Some which) × Keeps old new
AfterWork supply s t e old new (Err stops.WriteFault) = IsWithin t × WrotePrefix s t old new

-- the same where no page ends
abbrev pub AfterQuietWork : Option Supply → State → State → Shape → Result (Unit {0}) Measure → Type 0
AfterQuietWork supply s t e (Ok x) = Holds [] supply t e × (t.pages ≡ s.pages)
AfterQuietWork supply s t e (Err which) = passed t ≡ Some which

-- Whatever state the engine stood at, it comes to f of that state.
abbrev pub Comes : (State → State) → Shape → Shape → Option (List ℕ) → Option (List ℕ)
    → Result (Unit {0}) Stop → Type 0
Comes f e e' old new r =
    (supply : Option Supply) (s : State) → Stands [] supply s e
    → AfterWork supply (at e s) (f (at e s)) e' old new r

abbrev pub ComesQuietly : (State → State) → Shape → Shape → Result (Unit {0}) Measure → Type 0
ComesQuietly f e e' r =
    (supply : Option Supply) (s : State) → Stands [] supply s e
    → AfterQuietWork supply (at e s) (f (at e s)) e' r

-- less may still come before the next byte, and none was taken
abbrev pub IsLighter : Shape → Shape → Type 0
IsLighter e f = formatter.Falls 1 0 e.formatter f.formatter × (f.place ≡ e.place)

-- It comes to f of that state, and less may still come.
pub record Works (f : State → State) (e e' : Shape) (old new : Option (List ℕ))
    (r : Result (Unit {0}) Stop) : Type 0 where
  pub comes : Comes f e e' old new r
  pub lightens : OnOk r (IsLighter e e')

pub record WorksQuietly (f : State → State) (e e' : Shape) (r : Result (Unit {0}) Measure) : Type 0 where
  pub comes : ComesQuietly f e e' r
  pub lightens : OnOk r (IsLighter e e')

-- It comes to f of that state, the move is paid, and a source that had not failed has not failed now.
pub record Acts (f : State → State) (e e' : Shape) (old new : Option (List ℕ))
    (r : Result (Unit {0}) Stop) : Type 0 where
  pub comes : Comes f e e' old new r
  pub unfailed : has_failed e.place.ahead ≡ false → OnOk r (has_failed e'.place.ahead ≡ false)
  pub spends : OnOk r (Spends e e')

pub record ActsQuietly (f : State → State) (e e' : Shape) (r : Result (Unit {0}) Measure) : Type 0 where
  pub comes : ComesQuietly f e e' r
  pub unfailed : has_failed e.place.ahead ≡ false → OnOk r (has_failed e'.place.ahead ≡ false)
  pub spends : OnOk r (Spends e e')

-- nothing is to come of the source any more
pub record Exits (e e' : Shape) : Type 0 where
  pub comes : ComesQuietly exit e e' (Ok tt)
  pub unfailed : has_failed e'.place.ahead ≡ false
  pub spends : Spends e e'

-- the cells go on the page as a line of this height, or the page's limit stops it; the formatter is that of the engine
abbrev pub Places : List Cell → ℕ → Shape → Shape → Result (Unit {0}) Measure → Type 0
Places cells height e e' (Ok x) = (e'.formatter ≡ line_placed height e.formatter) × (e'.place ≡ e.place)
    × ((e'.select ≡ e.select) × (e'.faces ≡ e.faces)) × IsRow [] e'.row × (e'.page.limit ≡ e.page.limit)
    × ((lines : List Placed) → HoldsPage lines e.page
    → HoldsPage (lines ++ placed cells height e.formatter ∷ []) e'.page
    × (page_charge (lines ++ placed cells height e.formatter ∷ []) ≤ e.page.limit))
Places cells height e e' (Err PageCells) =
    (lines : List Placed) → HoldsPage lines e.page
    → e.page.limit < page_charge (lines ++ placed cells height e.formatter ∷ [])
Places cells height e e' (Err which) = ⊥

-- ---- one move

-- the move was made
pub record Moved (s : State) (e : Shape) (supply : Option Supply) (old new : Option (List ℕ)) : Type 0 where
  pub goes : Goes s
  pub holds : Holds [] supply (step s) e
  pub wrote : Wrote s (step s) old new

-- what went out where the run stops
abbrev pub Left : State → Outcome → Option (List ℕ) → Option (List ℕ) → Type 0
Left s Done old new = Keeps old new
Left s (Limit which at) old new = Keeps old new
Left s (ReadFault at) old new = Keeps old new
Left s TooLong old new = Keeps old new
Left s WriteFault old new = WrotePrefix s (step s) old new

abbrev pub AfterMove : State → Shape → Option Supply → Option (List ℕ) → Option (List ℕ)
    → Result (Unit {0}) Outcome → Type 0
AfterMove s e supply old new (Ok x) = Moved s e supply old new
AfterMove s e supply old new (Err outcome) = Stops s outcome × Left s outcome old new

-- At whatever state the engine stood, one move was made, or the run stops there.
abbrev pub Advances : Shape → Shape → Option Supply → Option Supply → Option (List ℕ) → Option (List ℕ)
    → Result (Unit {0}) Outcome → Type 0
Advances e f supply supply' old new r =
    (s : State) → Stands [] supply s e → AfterMove (at e s) f supply' old new r

-- and where it was made it was paid
pub record Moves (e f : Shape) (supply supply' : Option Supply) (old new : Option (List ℕ))
    (r : Result (Unit {0}) Outcome) : Type 0 where
  pub advances : Advances e f supply supply' old new r
  pub spends : OnOk r (Spends e f)

-- The count of the source's failed calls rises where this is reported of one that had not failed before.
abbrev pub CountsFault : Shape → Bool → ℕ → ℕ → Type 0
CountsFault e emitted old new = has_failed e.place.ahead ≡ false → new ≡ counted_if emitted old

-- what a move that reads tells of the source, by the count of its failed calls
pub record TellsRead (e f : Shape) (r : Result (Unit {0}) Refusal) (old new : ℕ) : Type 0 where
  pub counts : CountsFault e (is_read_fault r) old new
  pub unfailed : OnOk r (has_failed f.place.ahead ≡ has_failed e.place.ahead)

-- what any move tells of it
pub record TellsSource (e f : Shape) (r : Result (Unit {0}) Outcome) (old new : ℕ) : Type 0 where
  pub counts : CountsFault e (stops_reading r) old new
  pub unfailed : has_failed e.place.ahead ≡ false → OnOk r (has_failed f.place.ahead ≡ false)

-- ---- many moves

-- n moves were made from s, and the engine holds the state after them
pub record Made (chosen : List Choice) (s : State) (n : ℕ) (e : Shape) (supply : Option Supply)
    (old new : Option (List ℕ)) : Type 0 where
  pub runs : Runs n s
  pub holds : Holds chosen supply (state_after n s) e
  pub wrote : Wrote s (state_after n s) old new

-- what went out from s on, where the run stops at t
abbrev pub WritesFrom : State → State → Outcome → Option (List ℕ) → Option (List ℕ) → Type 0
WritesFrom s t Done old new = Wrote s t old new
WritesFrom s t (Limit which at) old new = Wrote s t old new
WritesFrom s t (ReadFault at) old new = Wrote s t old new
WritesFrom s t TooLong old new = Wrote s t old new
WritesFrom s t WriteFault old new =
    (between : Option (List ℕ)) × Wrote s t old between × WrotePrefix t (step t) between new

-- n moves were made from s, and the run stops there
pub record Halts (s : State) (n : ℕ) (outcome : Outcome) (old new : Option (List ℕ)) : Type 0 where
  pub runs : Runs n s
  pub stops : Stops (state_after n s) outcome
  pub writes : WritesFrom s (state_after n s) outcome old new

-- n moves were made from s, the last of `made` moves of a run that may make so many at most, and the run ends there
pub record Finishes (most made : ℕ) (s : State) (n : ℕ) (outcome : Outcome) (old new : Option (List ℕ))
    : Type 0 where
  pub runs : Runs n s
  pub allowed : made ≤ most
  pub ends : Ends most made (state_after n s) outcome
  pub writes : WritesFrom s (state_after n s) outcome old new
