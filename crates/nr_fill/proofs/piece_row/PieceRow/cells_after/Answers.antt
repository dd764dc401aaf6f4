use Rattle.std.proofs.Common.{min, ap, arith}
use Rattle.nr_fill.specs.Laid.{Laid}
use Rattle.nr_fill.specs.Piece.{cells_in}
use Rattle.nr_fill.proofs.Laying.{cells_in-laid_of, cells_after-laid_of}
use Rattle.nr_fill.proofs.piece_row.PieceRow.cells_after.Goals as goal

pub overflow_sub-result : goal.overflow_sub-result
overflow_sub-result c =
    let all = cells_in-laid_of c.self.invariant in
    let same = ap (λ (l : Laid). cells_in l.pieces) c.self.view_is in
    omega (arith, c.requires)

pub returns : goal.returns
returns c =
    λ n parted_is.
    let s = c.self.inside in
    rw (c.as_slice.ensures.value, ← c.self.view_is) (cells_after-laid_of (min s.slots.capacity s.cells.capacity) n c.args.parted c.self.invariant (rw (← c.self.view_is) at parted_is))
