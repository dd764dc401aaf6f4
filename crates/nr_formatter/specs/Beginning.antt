-- The formatter before its first move.
use Rattle.std.specs.Prelude.{ℕ, false, None, ℤ, pos}
use Rattle.nr_units.specs.declared.number_text.Format.TheVariants.{Arabic}
use Rattle.nr_fill.specs.Line.{Lined}
use Rattle.nr_store.specs.Store.{Stored}
use Rattle.nr_settings.specs.Settings.{first_settings}
use Rattle.nr_reading.specs.declared.event.Event.TheVariants as events
use Rattle.nr_input.specs.Moving.{nothing_read}
use Rattle.nr_formatter.specs.declared.paper.Given.{Given}
use Rattle.nr_formatter.specs.declared.paper.PageState.TheVariants.{Unbegun}
use Rattle.nr_formatter.specs.declared.paper.Paper.{Paper}
use Rattle.nr_formatter.specs.declared.tasks.Resume.{Resume}
use Rattle.nr_formatter.specs.declared.tasks.Step.TheVariants as steps
use Rattle.nr_formatter.specs.declared.tasks.Task.TheVariants as tasks
use Rattle.nr_formatter.specs.declared.formatter.Formatter.{Formatter}

-- no page has begun; the first is number 1 (CSTR 54, section 3)
abbrev pub first_paper : Paper
first_paper = record { state = Unbegun; number = pos 1; next = None; place = 0; ejecting = false }

-- 0, in digits (CSTR 54, section 8)
abbrev pub first_given : Given
first_given = record {
  height = pos 0;
  width = pos 0;
  page_format = Arabic 1;
  place_format = Arabic 1;
  height_format = Arabic 1;
  width_format = Arabic 1;
}

-- nothing is read, over what is stored and collected at first
abbrev pub first_formatter : Stored Resume → Lined → ℕ → Formatter
first_formatter store line most = record {
  reader = nothing_read most;
  store = store;
  line = line;
  settings = first_settings;
  paper = first_paper;
  given = first_given;
  event = events.Nothing;
  springs = None;
  task = tasks.Read;
  breaks = false;
  input_trap = None;
  step = steps.NotYet;
  end_macro = None;
}

-- the next page has this number (`-n`)
abbrev pub with_first : ℤ → Formatter → Formatter
with_first n f = record f { paper = record f.paper { number = n } }
