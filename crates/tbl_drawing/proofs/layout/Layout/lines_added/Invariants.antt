use Rattle.std.proofs.Common.{◌≡◌, ◌-◌}
use Rattle.tbl_drawing.specs.Heights.{lines_added}
use Rattle.tbl_drawing.proofs.layout.Layout.lines_added.Given as goal

abbrev pub invariant-loop-number : goal.invariant-loop-number
invariant-loop-number l = lines_added (l.number-end - l.number) l.self l.number l.lines ≡ lines_added (l.number-end - l.first) l.self l.first 0
