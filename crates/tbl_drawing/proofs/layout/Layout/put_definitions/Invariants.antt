use Rattle.std.proofs.Common.{◌-◌, ◌≤◌, ◌∷◌, [], max}
use Rattle.tbl_drawing.specs.Lines.{definitions_at}
use Rattle.tbl_drawing.specs.Pens.{Bytes}
use Rattle.tbl_drawing.specs.Sequences.{joined}
use Rattle.tbl_drawing.specs.Tapes.{Draws}
use Rattle.tbl_drawing.proofs.layout.Layout.put_definitions.Given as goal

abbrev pub invariant-loop-number : goal.invariant-loop-number
invariant-loop-number g l = record {
  draws : Draws l.initial.out l.out (Bytes (joined (l.number - l.initial.number) (definitions_at l.self l.initial.number)) ∷ []);
  within : l.number ≤ max l.initial.number l.number-end;
}
