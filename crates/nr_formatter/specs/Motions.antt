-- How many cells `\h` and `\l` make. (CSTR 54, sections 11 and 12.)
use Rattle.std.specs.Prelude.{ℕ, ◌*◌, ◌/◌, Option, None, Some, ℤ, pos}
use Rattle.nr_fill.specs.Tabs.{column}
use Rattle.nr_settings.specs.Motions.{motion, rule}
use Rattle.nr_settings.specs.declared.motions.Repeated.{Repeated}
use Rattle.nr_formatter.specs.declared.formatter.Formatter.{Formatter}
use Rattle.nr_formatter.specs.Access.{collected, spacing, argument}

-- where the next cell of the line stands, in u
abbrev pub next_place : Formatter → ℤ
next_place f = pos (24 * column (collected f))

abbrev pub cells_of : Option ℕ → ℕ
cells_of None = 0
cells_of (Some width) = width / 24

-- the blank cells of `\h`
abbrev pub motion_cells : Formatter → ℕ
motion_cells f = cells_of (motion (spacing f) (next_place f) (argument f))

-- the cells of `\l`
abbrev pub rule_cells : Formatter → Repeated
rule_cells f = rule (spacing f) (next_place f) (argument f)
