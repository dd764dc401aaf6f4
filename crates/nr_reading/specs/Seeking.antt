-- What the name of a control line calls (CSTR 54, 1.1, 7.1, 14, 16).
use Rattle.std.specs.Prelude.{Bool, true, false}
use Rattle.nr_reading.specs.declared.event.Event.{Event}
use Rattle.nr_reading.specs.declared.event.Event.TheVariants as events
use Rattle.nr_reading.specs.declared.half.Half.{Half}
use Rattle.nr_reading.specs.declared.mode.Calls.{Calls}
use Rattle.nr_reading.specs.declared.mode.Calls.TheVariants as calls
use Rattle.nr_reading.specs.declared.mode.Mode.TheVariants as modes
use Rattle.nr_reading.specs.Conditionals.{in_mode, conditional, otherwise}

-- a string is defined, or added to
abbrev pub defining_string : Bool → Half → Half
defining_string appends h =
    in_mode modes.StringBefore
    (record h {
      notes = record h.notes
          { defining = record h.notes.defining { keeps = true; appends = appends } };
    })

abbrev pub sought : Calls → Half → Half
sought calls.Nothing h = in_mode modes.Drop h
sought calls.Macro h = in_mode modes.MacroBlanks h
sought calls.Request h = in_mode modes.RequestBlanks h
sought calls.NewString h = defining_string false h
sought calls.MoreString h = defining_string true h
sought calls.If h = conditional false h
sought calls.IfElse h = conditional true h
sought calls.Else h = otherwise h
sought calls.Title h = in_mode modes.TitleBefore h

-- a title makes room before its line is read
abbrev pub sought_event : Calls → Event
sought_event calls.Title = events.Title
sought_event c = events.Nothing
