-- Sprung macros: their text comes before the rest of the input, and after it what was under way is gone on with.
-- (CSTR 54, section 7.5; groff manual, traps.)
use Rattle.std.specs.Prelude.{ℕ, ◌+◌, List, Option, None, Some, unsigned_abs}
use Rattle.nr_symbol_tables.specs.Table.{find}
use Rattle.nr_symbol_tables.specs.declared.trap.Trap.{Trap}
use Rattle.nr_store.specs.declared.element.Element.{Element}
use Rattle.nr_store.specs.Store.{words, entered}
use Rattle.nr_reading.specs.declared.event.Event.TheVariants as events
use Rattle.nr_reading.specs.Mode.{standing_of}
use Rattle.nr_reading.specs.Setting as setting
use Rattle.nr_formatter.specs.declared.formatter.Formatter.{Formatter}
use Rattle.nr_formatter.specs.declared.tasks.Resume.{Resume}
use Rattle.nr_formatter.specs.declared.tasks.Task.TheVariants as tasks

-- what is gone on with
abbrev pub interrupted : Formatter → Resume
interrupted f =
    record {
      task = f.task;
      standing = standing_of f.reader.half.reading.mode;
      line = f.reader.half.notes.line;
    }

-- The macro of this name springs: its text is spliced, without arguments, and read from a line's beginning on. A name
-- without text springs nothing.
abbrev pub sprung_text : List ℕ → Option (List Element) → Formatter → Formatter
sprung_text name None f = record f { springs = None }
sprung_text name (Some text) f = record f {
  store = entered name (Some text) (Some (interrupted f)) f.store;
  reader = record f.reader { half = setting.sprung f.reader.half; burst = f.reader.burst + 1 };
  springs = None;
  task = tasks.Read;
}

abbrev pub sprung : List ℕ → Formatter → Formatter
sprung name f = sprung_text name (words (find name f.store.names)) f

-- the page goes to a trap, whose macro springs
abbrev pub ejected_to : Trap → Formatter → Formatter
ejected_to t f = sprung t.name (record f { paper = record f.paper { place = unsigned_abs t.place } })

-- what was under way is gone on with
abbrev pub resumed : Resume → Formatter → Formatter
resumed r f = record f {
  reader = record f.reader { half = setting.with_line r.line (setting.resumed r.standing f.reader.half) };
  event = events.Nothing;
  task = r.task;
}
