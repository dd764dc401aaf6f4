-- What a move tells, with the mode beside it.
use Rattle.std.specs.Prelude.{Result, Ok, Err}
use Rattle.nr_store.specs.declared.shown.Sight.{Sight}
use Rattle.nr_store.specs.declared.shown.Sight.TheVariants as sights
use Rattle.nr_reading.specs.declared.event.Event.{Event}
use Rattle.nr_input.specs.declared.refusal.Refusal.{Refusal}
use Rattle.nr_input.specs.declared.emitted.Heard.{Heard}
use Rattle.nr_input.specs.declared.emitted.Heard.TheVariants as hears
use Rattle.nr_input.specs.declared.emitted.Emitted.{Emitted}
use Rattle.nr_input.specs.declared.emitted.Emitted.TheVariants as tells

-- what is emitted of an item that is taken
abbrev pub heard_of : Sight → Event → Heard
heard_of sights.Resume e = hears.Resume
heard_of (sights.Item x) e = hears.Event e
heard_of sights.End e = hears.Event e
heard_of sights.Nothing e = hears.Event e

-- what was emitted, where this is the mode
abbrev pub emitted_as : {K : Type 0} → K → Heard → Emitted K
emitted_as mode (hears.Event e) = tells.Event e
emitted_as mode hears.Resume = tells.Resume mode

-- the answer of a move, where this is the mode
abbrev pub emitted_with : {K : Type 0} → K → Result Heard Refusal → Result (Emitted K) Refusal
emitted_with mode (Ok h) = Ok (emitted_as mode h)
emitted_with mode (Err r) = Err r
