use Rattle.std.proofs.Common.{◌≤◌, ◌∷◌, []}
use Rattle.tbl_drawing.specs.Lines.{definitions_in}
use Rattle.tbl_drawing.specs.Pens.{Bytes}
use Rattle.tbl_drawing.specs.Tapes.{Tape, Draws}
use Rattle.tbl_drawing.proofs.Definitions.{left_in}
use Rattle.tbl_drawing.proofs.layout.Layout.put_definitions_in.Given as goal

-- what is left, put out now, makes all of it
abbrev pub invariant-loop-at : goal.invariant-loop-at
invariant-loop-at g l = record {
  within : l.from ≤ l.at;
  draws : (b : Tape) → Draws l.out b (Bytes (left_in l.from l.at l.text) ∷ []) → Draws l.initial.out b (Bytes (definitions_in [] l.text) ∷ []);
}
