use Rattle.std.proofs.Common.{length, ap, sym, ◌∙◌}
use Rattle.nr_fill.specs.Laid.{Laid}
use Rattle.nr_fill.proofs.PiecesOf.{length-pieces_of}
use Rattle.nr_fill.proofs.piece_row.PieceRow.pieces.Goals as goal

pub returns : goal.returns
returns c = c.len.ensures.value ∙ sym (length-pieces_of c.self.inside.slots.items c.self.inside.cells.items) ∙ ap (λ (l : Laid). length l.pieces) c.self.view_is
