-- Page numbers, and turning pages. (CSTR 54, section 3.)
use Rattle.std.specs.Prelude.{if◌then◌else◌, Option, None, Some, is_some, ℤ}
use Rattle.std.specs.Option.{unwrap_or}
use Rattle.nr_settings.specs.Pages.{page_number}
use Rattle.nr_formatter.specs.declared.formatter.Formatter.{Formatter}
use Rattle.nr_formatter.specs.declared.paper.PageState.{PageState}
use Rattle.nr_formatter.specs.declared.paper.PageState.TheVariants.{Unbegun, Open, Closed}
use Rattle.nr_formatter.specs.declared.tasks.Task.TheVariants as tasks
use Rattle.nr_formatter.specs.Access.{line, spacing, diversion}
use Rattle.nr_formatter.specs.Places.{is_open, is_diverting}

-- the number that a request gives
abbrev pub given_number : Formatter → Option ℤ
given_number f = page_number (line f) (spacing f) f.paper.number

-- the page after the open one gets a number, if there is one
abbrev pub number_next : Option ℤ → Formatter → Formatter
number_next None f = f
number_next (Some n) f = record f { paper = record f.paper { next = Some n } }

-- `.pn ±N`: the number of the next page; while none is open that is `%`
abbrev pub numbered : Option ℤ → Formatter → Formatter
numbered None f = f
numbered (Some n) f =
    record f {
      paper = if is_open f.paper.state then record f.paper { next = Some n }
          else record f.paper { number = n };
    }

abbrev pub pn : Formatter → Formatter
pn f = record (numbered (given_number f) f) { task = tasks.Read }

-- `.bp ±N`: begins the first page, which has the number N, and nothing more; else begins a page where none is open, and
-- ejects it, and N is the number of the page after. In a diversion it does nothing.
abbrev pub bp_at : PageState → Option ℤ → Formatter → Formatter
bp_at Unbegun n f =
    record f { paper = record f.paper { number = unwrap_or n f.paper.number }; task = tasks.Begin None }
bp_at Open n f = record (number_next n f) { task = tasks.Turn (is_some n) }
bp_at Closed n f = record (number_next n f) { task = tasks.Begin (Some (is_some n)) }

abbrev pub bp : Formatter → Formatter
bp f = if is_diverting (diversion f) then record f { task = tasks.Read }
    else bp_at f.paper.state (given_number f) f
