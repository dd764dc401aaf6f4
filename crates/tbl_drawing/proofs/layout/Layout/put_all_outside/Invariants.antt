use Rattle.tbl_drawing.specs.Lines.{next_outside}
use Rattle.tbl_drawing.specs.Sequences.{joined}
use Rattle.tbl_drawing.specs.Tapes.{Draws}
use Rattle.tbl_drawing.proofs.layout.Layout.put_all_outside.Given as goal

abbrev pub invariant-loop-number : goal.invariant-loop-number
invariant-loop-number g l = Draws l.initial.out l.out (joined l.number (next_outside l.self l.first))
