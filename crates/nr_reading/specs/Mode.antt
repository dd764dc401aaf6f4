-- Where the reader is.
use Prim.Native.Char.{code}
use Rattle.std.specs.Prelude.{Bool, true, false}
use Rattle.nr_reading.specs.declared.mode.Mode.{Mode}
use Rattle.nr_reading.specs.declared.mode.Mode.TheVariants as modes
use Rattle.nr_reading.specs.declared.mode.Escape.TheVariants as escapes
use Rattle.nr_reading.specs.declared.mode.PendingAct.TheVariants as pending_acts
use Rattle.nr_reading.specs.declared.mode.Reading.{Reading}
use Rattle.nr_reading.specs.declared.mode.Signs.{Signs}
use Rattle.nr_reading.specs.declared.mode.Standing.{Standing}
use Rattle.nr_reading.specs.declared.mode.Standing.TheVariants as standings

-- beginnings of lines, text, accepted and rejected parts, diverted lines: items as they are, and not in copy mode
abbrev pub is_direct : Mode → Bool
is_direct modes.Start = true
is_direct modes.Diverting = true
is_direct (modes.Leading n) = true
is_direct modes.Continued = true
is_direct modes.Text = true
is_direct modes.Interrupted = true
is_direct modes.TitleBefore = true
is_direct (modes.Title d n) = true
is_direct modes.Diverted = true
is_direct modes.Accepted = true
is_direct (modes.Skip n) = true
is_direct m = false

-- Argument mode: copy mode in which `\w` is interpolated too. Requests' lines are read so, and the numbers of conditions.
abbrev pub reads_arguments : Mode → Bool
reads_arguments modes.RequestBlanks = true
reads_arguments modes.RequestLine = true
reads_arguments modes.Condition = true
reads_arguments (modes.Number n) = true
reads_arguments m = false

-- a control line's name is read
abbrev pub reads_name : Mode → Bool
reads_name modes.Control = true
reads_name modes.Name = true
reads_name m = false

-- at the beginning of a line, with nothing half read
abbrev pub at_a_line : Reading
at_a_line =
    record {
      mode = modes.Start;
      escape = escapes.Plain;
      pending_act = pending_acts.Look;
      continued = false;
      no_break = false;
    }

-- `.` and `'`, and names of two bytes (CSTR 54, 10.4; the groff manual, `.cp`)
abbrev pub first_signs : Signs
first_signs = record { control = code "."; no_break = code "'"; long = false }

-- where a line stands in whose middle a macro was sprung
abbrev pub standing_of : Mode → Standing
standing_of (modes.Leading n) = standings.Leading
standing_of modes.Continued = standings.Continued
standing_of modes.Text = standings.Text
standing_of modes.Interrupted = standings.Text
standing_of m = standings.Start

-- where it goes on after that macro; of its blanks the first was read
abbrev pub mode_of : Standing → Mode
mode_of standings.Start = modes.Start
mode_of standings.Leading = modes.Leading 1
mode_of standings.Text = modes.Text
mode_of standings.Continued = modes.Continued
