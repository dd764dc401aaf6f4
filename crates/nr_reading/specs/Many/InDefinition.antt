-- The midst of a text that is being defined, where nothing is half read.
use Rattle.std.specs.Prelude.{◌&&◌, Bool, false, List}
use Rattle.nr_reading.specs.declared.ask.Ask.{Ask}
use Rattle.nr_reading.specs.declared.half.Half.{Half}
use Rattle.nr_reading.specs.declared.mode.PendingAct.{PendingAct}
use Rattle.nr_reading.specs.declared.mode.PendingAct.TheVariants as pending_acts
use Rattle.nr_reading.specs.declared.mode.Escape.{Escape}
use Rattle.nr_reading.specs.declared.mode.Escape.TheVariants as escapes
use Rattle.nr_reading.specs.declared.mode.Mode.{Mode}
use Rattle.nr_reading.specs.declared.mode.Mode.TheVariants as modes
use Rattle.nr_reading.specs.Nesting.{is_none}

-- by whether the lines of a definition are kept
abbrev pub is_in_definition_at : Bool → Mode → Escape → PendingAct → List Ask → Bool
is_in_definition_at keeps modes.StringText escapes.Plain pending_acts.Look asks = is_none asks
is_in_definition_at keeps modes.Body escapes.Plain pending_acts.Look asks = keeps && is_none asks
is_in_definition_at keeps m e d asks = false

-- the next item is read in the midst of a string's text, or of a line of a definition that is kept, after no part of an escape
abbrev pub is_in_definition : Half → Bool
is_in_definition h =
    is_in_definition_at h.notes.defining.keeps h.reading.mode h.reading.escape h.reading.pending_act h.asks
