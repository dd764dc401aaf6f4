-- What an escape asks for that has ended (CSTR 54, escape sequences).
use Rattle.std.specs.Prelude.{ℕ, if◌then◌else◌, List}
use Rattle.nr_reading.specs.declared.ask.Kind.{Kind}
use Rattle.nr_reading.specs.declared.ask.Kind.TheVariants as kinds
use Rattle.nr_reading.specs.declared.event.Event.{Event}
use Rattle.nr_reading.specs.declared.event.Event.TheVariants as events
use Rattle.nr_reading.specs.declared.mode.PendingAct.{PendingAct}
use Rattle.nr_reading.specs.declared.mode.PendingAct.TheVariants as pending_acts
use Rattle.nr_reading.specs.Ask.{is_given}

-- a string or a register is spliced
abbrev pub pending_of : Kind → List ℕ → PendingAct
pending_of kinds.String name = pending_acts.Splice
pending_of (kinds.Register s) name = if is_given name then pending_acts.Look else pending_acts.Register s
pending_of k name = pending_acts.Look

-- what its name or its text is emitted for
abbrev pub event_of : Kind → List ℕ → Event
event_of (kinds.Register s) name = if is_given name then events.Given else events.Nothing
event_of kinds.Width name = events.Width
event_of kinds.Font name = events.Font
event_of kinds.Special name = events.Special
event_of kinds.Horizontal name = events.Horizontal
event_of kinds.Rule name = events.Rule
event_of k name = events.Nothing
