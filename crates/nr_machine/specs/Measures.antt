-- What has a limit, and how much of it a state has.
use Rattle.std.specs.Prelude.{◌≤◌, nat_lt, if◌then◌else◌, length, Option, None, Some}
use Rattle.nr_fill.specs.Piece.{line_cells}
use Rattle.nr_store.specs.Store.{charge_of}
use Rattle.nr_page.specs.Grid.{page_charge}
use Rattle.nr_formatter.specs.Limits as formatter
use Rattle.nr_formatter.specs.declared.passed.Passed.{Passed}
use Rattle.nr_formatter.specs.declared.passed.Passed.TheVariants as passes
use Rattle.nr_formatter.specs.Access.{collected}
use Rattle.nr_machine.specs.State.{State}
use Rattle.nr_machine.specs.declared.outcome.Measure.{Measure}
use Rattle.nr_machine.specs.declared.outcome.Measure.TheVariants.{Stored, Depth, LineCells, PageCells, Expansions}

abbrev pub measure_of : Passed → Measure
measure_of passes.Stored = Stored
measure_of passes.Depth = Depth
measure_of passes.LineCells = LineCells
measure_of passes.Expansions = Expansions

-- the first measure that is above its limit
abbrev pub passed : State → Option Measure
passed s =
    if nat_lt s.formatter.store.limit (charge_of s.formatter.store) then Some Stored
    else (if nat_lt s.formatter.store.deepest (length s.formatter.store.levels) then Some Depth
    else (if nat_lt s.formatter.line.limit (line_cells (collected s.formatter)) then Some LineCells
    else (if nat_lt s.page_limit (page_charge s.lines) then Some PageCells
    else (if nat_lt s.formatter.reader.most s.formatter.reader.burst then Some Expansions else None))))

-- no measure is above its limit
pub record IsWithin (s : State) : Type 0 where
  pub formatter : formatter.IsWithin s.formatter
  pub page : page_charge s.lines ≤ s.page_limit
