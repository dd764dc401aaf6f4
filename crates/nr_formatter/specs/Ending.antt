-- The end of the run, step by step. (CSTR 54, section 7.6; groff manual, `.em`, `.ex`.)
use Rattle.std.specs.Prelude.{true, if◌then◌else◌}
use Rattle.nr_store.specs.Store.{emptied, newest_diversion}
use Rattle.nr_settings.specs.Arguments.{name_in}
use Rattle.nr_reading.specs.declared.event.Event.TheVariants as events
use Rattle.nr_formatter.specs.declared.formatter.Formatter.{Formatter}
use Rattle.nr_formatter.specs.declared.tasks.Ejected.TheVariants as ejecteds
use Rattle.nr_formatter.specs.declared.tasks.Step.{Step}
use Rattle.nr_formatter.specs.declared.tasks.Step.TheVariants as steps
use Rattle.nr_formatter.specs.declared.tasks.Task.TheVariants as tasks
use Rattle.nr_formatter.specs.declared.tasks.Then.TheVariants as thens
use Rattle.nr_formatter.specs.Access.{line, long}
use Rattle.nr_formatter.specs.Places.{is_diverting}
use Rattle.nr_formatter.specs.Diversions.{end_diversion}

-- the open page is ejected, and then the run is over
abbrev pub eject_last : Formatter → Formatter
eject_last f = record f {
  step = steps.LastPage;
  paper = record f.paper { ejecting = true };
  task = tasks.Eject ejecteds.Finish;
}

-- open diversions end, from the innermost outwards, and then the open page is ejected
abbrev pub end_last_diversion : Formatter → Formatter
end_last_diversion f =
    if is_diverting (newest_diversion f.store.building) then end_diversion f else eject_last f

-- The next step: all goes out; the macro of `.em` springs; all goes out; open diversions end; the open page is ejected.
-- Where `.ex` empties the input in the midst of a break, the break goes on; after the step of `.em` the next one comes;
-- in the last ejecting the run ends.
abbrev pub finish_at : Step → Formatter → Formatter
finish_at steps.NotYet f = record f { step = steps.FirstBreak; task = tasks.Break thens.Finish }
finish_at steps.FirstBreak f = record f { task = tasks.Break thens.Finish }
finish_at steps.Macro f = record f { step = steps.SecondBreak; springs = f.end_macro }
finish_at steps.SecondBreak f = record f { task = tasks.Break thens.Finish }
finish_at steps.Diversions f = end_last_diversion f
finish_at steps.LastPage f = record f { task = tasks.Halted }

abbrev pub finish : Formatter → Formatter
finish f = finish_at f.step f

-- `.em xx`: the macro at the end; without xx none
abbrev pub em : Formatter → Formatter
em f = record f { end_macro = name_in (long f) (line f); task = tasks.Read }

-- `.ex`, once nothing is to come of the source: the levels are emptied, and the end of the input is read
abbrev pub ex : Formatter → Formatter
ex f = record f { store = emptied f.store; event = events.Nothing; task = tasks.Read }
