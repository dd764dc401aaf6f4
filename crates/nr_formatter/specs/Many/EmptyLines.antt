-- Empty lines, many at once: each is a break at which nothing is collected, and the space of one line.
use Prim.Native.Char.{code}
use Rattle.std.specs.Prelude.{◌≡◌, ℕ, ◌+◌, ◌-◌, ◌*◌, ◌/◌, Bool, false, not, ◌&&◌, ◌==◌, if◌then◌else◌, is_none, List, []}
use Rattle.nr_fill.specs.Piece.{begins_line}
use Rattle.nr_reading.specs.declared.event.Event.TheVariants as events
use Rattle.nr_reading.specs.declared.ask.Ask.{Ask}
use Rattle.nr_reading.specs.declared.half.Half.{Half}
use Rattle.nr_reading.specs.declared.mode.PendingAct.{PendingAct}
use Rattle.nr_reading.specs.declared.mode.PendingAct.TheVariants as pending_acts
use Rattle.nr_reading.specs.declared.mode.Escape.{Escape}
use Rattle.nr_reading.specs.declared.mode.Escape.TheVariants as escapes
use Rattle.nr_reading.specs.declared.mode.Mode.{Mode}
use Rattle.nr_reading.specs.declared.mode.Mode.TheVariants as modes
use Rattle.nr_reading.specs.declared.mode.Signs.{Signs}
use Rattle.nr_reading.specs.Nesting.{is_none as has_none}
use Rattle.nr_reading.specs.Setting.{not_continued}
use Rattle.nr_input.specs.Acting.{on_half}
use Rattle.nr_formatter.specs.Access.{collected, spacing}
use Rattle.nr_formatter.specs.Places.{outlet, distance_below}
use Rattle.nr_formatter.specs.Spacing.{has_room}
use Rattle.nr_formatter.specs.declared.formatter.Formatter.{Formatter}
use Rattle.nr_formatter.specs.declared.tasks.Task.TheVariants as tasks

-- no macro springs, nothing is collected, and an open page with room takes space
abbrev pub goes_down : Formatter → Bool
goes_down f =
    (is_none f.springs && begins_line (collected f)) && (has_room (outlet f) && not f.settings.pages.no_space)

-- how many lines may go down so that they end above the next trap and the bottom
abbrev pub lines_below : Formatter → ℕ
lines_below f = if goes_down f then (distance_below f.paper.place f - 1) / spacing f else 0

-- after so many empty lines, once the first of them was read
abbrev pub gone_down : ℕ → Formatter → Formatter
gone_down n f = record f {
  reader = on_half not_continued f.reader;
  paper = record f.paper { place = f.paper.place + n * spacing f };
  event = events.Nothing;
  task = tasks.Read;
  breaks = false;
}

-- ---- what is half read

abbrev pub is_at_line_by : Mode → Escape → PendingAct → List Ask → Bool
is_at_line_by modes.Start escapes.Plain pending_acts.Look asks = has_none asks
is_at_line_by m e d asks = false

-- a newline is no control character
abbrev pub ends_lines : Signs → Bool
ends_lines s = not (s.control == code "\n") && not (s.no_break == code "\n")

-- the next item is read at the beginning of a line, after no part of an escape
abbrev pub is_at_line : Half → Bool
is_at_line h = is_at_line_by h.reading.mode h.reading.escape h.reading.pending_act h.asks && ends_lines h.signs

-- the same, part by part
pub record IsAtLine (h : Half) : Type 0 where
  pub mode : h.reading.mode ≡ modes.Start
  pub escape : h.reading.escape ≡ escapes.Plain
  pub pending_act : h.reading.pending_act ≡ pending_acts.Look
  pub asks : h.asks ≡ []
  pub control : (h.signs.control == code "\n") ≡ false
  pub no_break : (h.signs.no_break == code "\n") ≡ false
