use Rattle.std.proofs.Common.{◌∷◌, [], replicate}
use Rattle.tbl_drawing.specs.Tapes.{Draws}
use Rattle.tbl_drawing.specs.Pens.{Bytes}
use Rattle.tbl_drawing.proofs.writing.Out.repeat_each.Given as goal

abbrev pub invariant-loop-place : goal.invariant-loop-place
invariant-loop-place g l = Draws l.initial.self l.self (Bytes (replicate l._place l.byte) ∷ [])
