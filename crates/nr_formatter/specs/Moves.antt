-- The moves that touch neither the source nor the page nor the output.
use Rattle.std.specs.Prelude.{Bool, true, false, not, ◌&&◌, if◌then◌else◌, decimal, None, Some}
use Rattle.nr_settings.specs.Fonts.{with_named}
use Rattle.nr_settings.specs.Widths.{width_of}
use Rattle.nr_reading.specs.Conditionals.{in_mode}
use Rattle.nr_reading.specs.declared.event.Event.{Event}
use Rattle.nr_reading.specs.declared.event.Event.TheVariants as events
use Rattle.nr_reading.specs.declared.mode.Mode.TheVariants as modes
use Rattle.nr_input.specs.Acting.{on_half}
use Rattle.nr_formatter.specs.declared.tasks.After.TheVariants as afters
use Rattle.nr_formatter.specs.declared.tasks.Room.{Room}
use Rattle.nr_formatter.specs.declared.tasks.Room.TheVariants as rooms
use Rattle.nr_formatter.specs.declared.tasks.Task.{Task}
use Rattle.nr_formatter.specs.declared.tasks.Task.TheVariants as tasks
use Rattle.nr_formatter.specs.declared.tasks.Then.TheVariants as thens
use Rattle.nr_formatter.specs.declared.formatter.Formatter.{Formatter}
use Rattle.nr_formatter.specs.Access.{argument, asked, long, spacing, done}
use Rattle.nr_formatter.specs.Conditions.{answered}
use Rattle.nr_formatter.specs.Ending.{finish}
use Rattle.nr_formatter.specs.Lines.{count, count_input}
use Rattle.nr_formatter.specs.Pages.{turned}
use Rattle.nr_formatter.specs.Places.{to_read}
use Rattle.nr_formatter.specs.Registers.{spliced, given_register}
use Rattle.nr_formatter.specs.Requests.{act, breaks}
use Rattle.nr_formatter.specs.Text.{text, finish_dash}
use Rattle.nr_formatter.specs.Titles.{reads_title, title, title_part}

-- ---- what was read

-- what a text line's text or a title's has
abbrev pub is_text : Event → Bool
is_text events.Lead = true
is_text (events.Byte b) = true
is_text (events.Cell x) = true
is_text (events.Plain b) = true
is_text events.Fixed = true
is_text events.Zero = true
is_text events.Percent = true
is_text events.BreakWord = true
is_text events.Tab = true
is_text events.Leader = true
is_text events.Special = true
is_text events.Horizontal = true
is_text events.Rule = true
is_text events.EndLine = true
is_text events.EndContinued = true
is_text e = false

abbrev pub text_heard : Event → Formatter → Formatter
text_heard e f = if reads_title f then title e f else text e f

-- what was read is acted on by this
abbrev pub heard_for : Task → Formatter → Formatter
heard_for t f = record f { event = events.Nothing; task = t }

-- a request takes effect, after a break where it breaks and its line did not begin with the no-break character
abbrev pub task_requested : Formatter → Task
task_requested f =
    if breaks f.reader.request && not f.reader.half.reading.no_break
    then tasks.Break (thens.Act f.reader.request)
    else tasks.Act f.reader.request

-- `\f`
abbrev pub font_set : Formatter → Formatter
font_set f = record f {
  settings = record f.settings { fonts = with_named (asked f) f.settings.fonts };
  event = events.Nothing;
}

-- `\w`: the width's digits are spliced, in u
abbrev pub width_given : Formatter → Formatter
width_given f =
    record (spliced (decimal (width_of (long f) (spacing f) (argument f))) f) { event = events.Nothing }

-- what was read beside text; anything else means nothing
abbrev pub control : Event → Formatter → Formatter
control events.Over f = heard_for tasks.Finish f
control events.Empty f = heard_for (tasks.Break thens.Space) f
control events.Leading f = heard_for (tasks.Break thens.Leading) f
control events.EndInterrupted f = heard_for (tasks.Flow afters.Interrupted false) f
control events.Diverted f = heard_for (tasks.Break thens.Diverted) f
control (events.DivertedEnd None) f = heard_for (tasks.Line (spacing f)) f
control (events.DivertedEnd (Some height)) f = heard_for (tasks.Line height) f
control events.Title f = heard_for (tasks.Room rooms.Title) f
control events.TitlePart f = title_part f
control events.TitleEnd f = heard_for tasks.Title f
control events.Font f = font_set f
control (events.Judge q) f = answered q f
control events.Request f = heard_for (task_requested f) f
control e f = done f

-- a built-in register and a width have a text that is spliced
abbrev pub heard_beside : Event → Formatter → Formatter
heard_beside events.Given f = given_register f
heard_beside events.Width f = width_given f
heard_beside e f = control e f

-- what was read is acted on
abbrev pub heard : Event → Formatter → Formatter
heard e f = if is_text e then text_heard e f else heard_beside e f

-- ---- what is under way

-- there is room for a title, or for a diverted line
abbrev pub read_in : Room → Formatter → Formatter
read_in rooms.Title f = to_read (record f { reader = on_half (in_mode modes.TitleBefore) f.reader })
read_in rooms.Line f = to_read (record f { reader = on_half (in_mode modes.Diverting) f.reader })

-- what adds nothing to what has a limit; a task that needs the source, the page or the output stays
abbrev pub gone_on : Task → Formatter → Formatter
gone_on tasks.Count f = count f
gone_on tasks.InputTrap f = count_input f
gone_on (tasks.Turn given) f = turned given f
gone_on tasks.Finish f = finish f
gone_on t f = f

-- what is under way goes on
abbrev pub worked : Task → Formatter → Formatter
worked tasks.Dash f = finish_dash f
worked (tasks.Act r) f = act r f
worked t f = gone_on t f

-- what is under way and needs neither the source nor the page nor the output
abbrev pub works : Task → Bool
works tasks.Dash = true
works (tasks.Act r) = true
works tasks.Count = true
works tasks.InputTrap = true
works (tasks.Turn given) = true
works tasks.Finish = true
works t = false
