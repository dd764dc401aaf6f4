-- What comes of an item, in six words.
use Rattle.std.specs.Prelude.{Bool, true, false}
use Rattle.nr_reading.specs.declared.event.Event.{Event}
use Rattle.nr_reading.specs.declared.event.Event.TheVariants as events
use Rattle.nr_reading.specs.declared.mode.PendingAct.{PendingAct}
use Rattle.nr_reading.specs.declared.mode.Escape.{Escape}
use Rattle.nr_reading.specs.declared.mode.Mode.{Mode}
use Rattle.nr_reading.specs.declared.mode.Reading.{Reading}
use Rattle.nr_reading.specs.Notes.{Note}
use Rattle.nr_reading.specs.Notes as notes
use Rattle.nr_reading.specs.declared.step.Said.{Said}
use Rattle.nr_reading.specs.declared.step.Jot.{Jot}
use Rattle.nr_reading.specs.declared.step.Jot.TheVariants as jots
use Rattle.nr_reading.specs.declared.ask.Ask.{Ask}
use Rattle.nr_reading.specs.declared.ask.Begun.{Begun}
use Rattle.nr_reading.specs.declared.ask.Begun.TheVariants as begun
use Rattle.nr_reading.specs.Ask.{begun_ask, bracketed_ask}

-- what comes of an item
pub record Step : Type 0 where
  -- where the reader is then
  pub reading : Reading
  -- what is noted beside
  pub note : Note
  -- what is emitted
  pub event : Event
  -- the item is taken
  pub takes : Bool

-- how an escape begins, as the program has it
abbrev pub ask_of : Begun → Ask
ask_of (begun.Of k) = begun_ask k
ask_of begun.Bracket = bracketed_ask

-- what is noted, as the program has it
abbrev pub note_of : Jot → Note
note_of jots.Nothing = notes.Nothing
note_of jots.NewName = notes.NewName
note_of (jots.Name b) = notes.Name b
note_of jots.NewLine = notes.NewLine
note_of (jots.Line b) = notes.Line b
note_of jots.Negated = notes.Negated
note_of jots.Strings = notes.Strings
note_of (jots.First b) = notes.First b
note_of (jots.Second b) = notes.Second b
note_of (jots.Begin a) = notes.Begin (ask_of a)

-- the same, in two parts
abbrev pub joined : Reading → Said → Step
joined r s = record { reading = r; note = note_of s.note; event = s.event; takes = s.takes }

-- in another mode
abbrev pub to : Mode → Reading → Reading
to m r = record r { mode = m }

-- with another part of an escape read
abbrev pub escaping : Escape → Reading → Reading
escaping e r = record r { escape = e }

-- with this to be done next
abbrev pub pending_act : PendingAct → Reading → Reading
pending_act d r = record r { pending_act = d }

-- the item is taken
abbrev pub go : Reading → Step
go r = record { reading = r; note = notes.Nothing; event = events.Nothing; takes = true }

-- the item is left to another mode
abbrev pub leave : Reading → Step
leave r = record { reading = r; note = notes.Nothing; event = events.Nothing; takes = false }

-- the item is taken, and this is emitted
abbrev pub tell : Event → Reading → Step
tell e r = record { reading = r; note = notes.Nothing; event = e; takes = true }

-- the item is taken, and this is noted
abbrev pub noting : Note → Reading → Step
noting n r = record { reading = r; note = n; event = events.Nothing; takes = true }

-- the item is left, and this is emitted
abbrev pub leave_telling : Event → Reading → Step
leave_telling e r = record { reading = r; note = notes.Nothing; event = e; takes = false }

-- the item is left, and this is noted
abbrev pub leave_noting : Note → Reading → Step
leave_noting n r = record { reading = r; note = n; event = events.Nothing; takes = false }
