use Rattle.std.proofs.Common.{◌≡◌, ◌-◌}
use Rattle.tbl_columns.specs.Texts.{all_given, has_width}
use Rattle.tbl_columns.proofs.grid.Grid.is_given.Given as goal

abbrev pub invariant-loop-number : goal.invariant-loop-number
invariant-loop-number l = all_given (l.number-end - l.number) l.self l.number ≡ has_width l.self l.fn.cell
