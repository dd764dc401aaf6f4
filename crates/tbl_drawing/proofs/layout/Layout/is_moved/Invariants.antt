use Rattle.std.proofs.Common.{◌≡◌, false}
use Rattle.tbl_drawing.specs.Lines.{moves_at}
use Rattle.tbl_drawing.specs.Sequences.{some_below}
use Rattle.tbl_drawing.proofs.layout.Layout.is_moved.Given as goal

abbrev pub invariant-loop-place : goal.invariant-loop-place
invariant-loop-place l = some_below l.place (moves_at l.self) ≡ false
