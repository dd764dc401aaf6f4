use Rattle.std.proofs.Common.{◌≡◌, ◌-◌}
use Rattle.tbl_columns.specs.Texts.{is_wide, some_wide}
use Rattle.tbl_columns.proofs.grid.Grid.is_wide.Given as goal

abbrev pub invariant-loop-number : goal.invariant-loop-number
invariant-loop-number l = some_wide (l.number-end - l.number) l.self l.number ≡ is_wide l.self l.fn.cell
