use Rattle.std.proofs.Common.{List, ℕ, [], ◌∷◌, ap}
use Rattle.tbl_drawing.specs.Pens.{Bytes}
use Rattle.tbl_drawing.proofs.Pieces.{texts_of_more}
use Rattle.tbl_drawing.proofs.Tapes.{draws_both, draws_same}
use Rattle.tbl_drawing.proofs.writing.Out.pieces.Goals as goal

pub loop-piece-preserved : goal.loop-piece-preserved
loop-piece-preserved g c =
    draws_same (draws_both c.loop-piece.invariant c.piece.ensures)
    (ap (λ (l : List ℕ). Bytes l ∷ []) (texts_of_more c.args.pieces.now c.loop-piece.piece-index _ c.loop-piece-test.true))
