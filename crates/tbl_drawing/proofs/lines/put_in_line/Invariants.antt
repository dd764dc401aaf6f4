use Rattle.std.proofs.Common.{◌∷◌, [], map, take}
use Rattle.tbl_drawing.specs.Pens.{Bytes}
use Rattle.tbl_drawing.specs.Tapes.{Draws}
use Rattle.tbl_drawing.specs.Lines.{in_line}
use Rattle.tbl_drawing.proofs.lines.put_in_line.Given as goal

abbrev pub invariant-loop-byte : goal.invariant-loop-byte
invariant-loop-byte g l = Draws l.initial.out l.out (Bytes (map in_line (take l.byte-index l.text)) ∷ [])
