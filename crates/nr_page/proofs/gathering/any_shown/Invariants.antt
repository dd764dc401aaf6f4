use Rattle.std.proofs.Common.{◌≡◌, false, All, take}
use Rattle.nr_vectors.specs.declared.cell.Cell.{Cell}
use Rattle.nr_page.specs.Faces.{may_show}
use Rattle.nr_page.proofs.gathering.any_shown.Given as goal

abbrev pub invariant-loop-cell : goal.invariant-loop-cell
invariant-loop-cell l = l.any ≡ false → All (λ (cell : Cell). may_show l.faces cell.look ≡ false) (take l.cell-index l.cells)
