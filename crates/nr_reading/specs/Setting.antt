-- What those who read events set (CSTR 54, 7.1, 10.4, 14; the groff manual, `.cp`).
use Rattle.std.specs.Prelude.{ℕ, Bool, false, List, [], take}
use Rattle.nr_reading.specs.declared.half.Half.{Half}
use Rattle.nr_reading.specs.declared.mode.PendingAct.TheVariants as pending_acts
use Rattle.nr_reading.specs.declared.mode.Escape.TheVariants as escapes
use Rattle.nr_reading.specs.declared.mode.Mode.TheVariants as modes
use Rattle.nr_reading.specs.declared.mode.Standing.{Standing}
use Rattle.nr_reading.specs.Conditionals.{in_mode}
use Rattle.nr_reading.specs.Delimited.{no_texts}
use Rattle.nr_reading.specs.Mode.{mode_of}

-- the control characters
abbrev pub with_control : ℕ → Half → Half
with_control b h = record h { signs = record h.signs { control = b } }

abbrev pub with_no_break : ℕ → Half → Half
with_no_break b h = record h { signs = record h.signs { no_break = b } }

-- long names, on or off
abbrev pub with_long_names : Bool → Half → Half
with_long_names long h = record h { signs = record h.signs { long = long } }

-- the next text line continues no word
abbrev pub not_continued : Half → Half
not_continued h = record h { reading = record h.reading { continued = false } }

-- a line is read again: its first 256 bytes
abbrev pub with_line : List ℕ → Half → Half
with_line bytes h = record h { notes = record h.notes { line = take 256 bytes } }

-- a sprung text begins a line, whatever is half read
abbrev pub sprung : Half → Half
sprung h = record h {
  reading = record h.reading { mode = modes.Start; escape = escapes.Plain; pending_act = pending_acts.Look };
  asks = [];
  delimited = no_texts;
}

-- after it the line goes on where it stood
abbrev pub resumed : Standing → Half → Half
resumed s h = in_mode (mode_of s) h

-- the lines of a definition follow: they are kept under a name, or not, and end by another name or by two dots
abbrev pub defining : List ℕ → List ℕ → Bool → Half → Half
defining name ending keeps h = record h {
  reading = record h.reading { mode = modes.BodyStart 0 };
  notes = record h.notes {
    name = record { bytes = name; bad = false };
    defining = record { ending = ending; long = h.signs.long; keeps = keeps; appends = false };
  };
}
