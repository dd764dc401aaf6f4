-- Conditions on the page and on numbers. (CSTR 54, section 16.)
use Rattle.std.specs.Prelude.{◌%◌, ◌==◌, Bool, unsigned_abs}
use Rattle.nr_settings.specs.Numbers.{is_true_number}
use Rattle.nr_reading.specs.declared.event.Event.TheVariants as events
use Rattle.nr_reading.specs.declared.event.Question.{Question}
use Rattle.nr_reading.specs.declared.event.Question.TheVariants.{Odd, Even, Number}
use Rattle.nr_reading.specs.Conditionals.{judged}
use Rattle.nr_input.specs.Acting.{on_half}
use Rattle.nr_formatter.specs.declared.formatter.Formatter.{Formatter}
use Rattle.nr_formatter.specs.Access.{line, spacing}

-- `o`, `e`: the page number is odd, or even; a number: it is above 0
abbrev pub holds : Question → Formatter → Bool
holds Odd f = unsigned_abs f.paper.number % 2 == 1
holds Even f = unsigned_abs f.paper.number % 2 == 0
holds Number f = is_true_number (spacing f) (line f)

-- the question is answered
abbrev pub answered : Question → Formatter → Formatter
answered q f = record f { reader = on_half (judged (holds q f)) f.reader; event = events.Nothing }
