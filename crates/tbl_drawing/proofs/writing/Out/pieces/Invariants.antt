use Rattle.std.proofs.Common.{◌∷◌, [], take}
use Rattle.tbl_drawing.specs.Pens.{Bytes}
use Rattle.tbl_drawing.specs.Tapes.{Draws}
use Rattle.tbl_drawing.specs.Writing.{texts_of}
use Rattle.tbl_drawing.proofs.writing.Out.pieces.Given as goal

abbrev pub invariant-loop-piece : goal.invariant-loop-piece
invariant-loop-piece g l = Draws l.initial.self l.self (Bytes (texts_of (take l.piece-index l.pieces)) ∷ [])
