use Rattle.tbl_drawing.specs.Lines.{nth_strokes}
use Rattle.tbl_drawing.specs.Sequences.{joined}
use Rattle.tbl_drawing.specs.Tapes.{Draws}
use Rattle.tbl_drawing.proofs.layout.Layout.put_steps.Given as goal

abbrev pub invariant-loop-number : goal.invariant-loop-number
invariant-loop-number g l = Draws l.initial.out l.out (joined l.number (nth_strokes l.self))
