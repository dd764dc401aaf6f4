use Rattle.std.proofs.Common.{◌≡◌, ◌-◌, length}
use Rattle.tbl_drawing.specs.Steps.{line_among, line_up_to}
use Rattle.tbl_drawing.proofs.layout.Layout.line_up_to.Given as goal

abbrev pub invariant-loop-place : goal.invariant-loop-place
invariant-loop-place l =
    line_among (length l.self.steps.items - l.place) l.self l.place l.number l.cell.first l.wanted l.line ≡ line_up_to l.self l.number l.cell l.wanted
