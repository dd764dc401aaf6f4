use Rattle.std.proofs.Common.{length, ◌∙◌, refl, arith}
use Rattle.nr_fill.proofs.Lines.{the_word}
use Rattle.nr_fill.specs.Piece.{Piece}
use Rattle.std.proofs.lemmas.List.Sums.{sum_by-take-drop}
use Rattle.nr_fill.proofs.line.Line.word_cells.Goals as goal

pub cells_after-requires : goal.cells_after-requires
cells_after-requires c =
    let h = rw c.in-Some.is at c.self.invariant in
    let iw = the_word h in
    let parts = sum_by-take-drop (λ (p : Piece). length p.cells) c.self.inside.row.pieces c.self.inside.pieces in
    omega (arith, iw.parted_is)

pub returns-in-Some : goal.returns-in-Some
returns-in-Some c =
    let h = rw c.in-Some.is at c.self.invariant in
    let iw = the_word h in
    c.cells_after.ensures c.self.inside.pieces iw.parted_is ∙ rw (← c.self.view_is, c.in-Some.is) refl
