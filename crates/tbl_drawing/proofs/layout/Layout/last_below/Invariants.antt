use Rattle.std.proofs.Common.{◌≡◌, ◌-◌}
use Rattle.tbl_drawing.specs.Heights.{last_below, lowest}
use Rattle.tbl_drawing.proofs.layout.Layout.last_below.Given as goal

abbrev pub invariant-loop-cell : goal.invariant-loop-cell
invariant-loop-cell l = lowest (l.cell-end - l.cell) l.self.grid l.cell l.last ≡ last_below l.self l.fn.number
