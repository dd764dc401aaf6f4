-- Cells of a diverted line that is read again.
use Rattle.std.specs.Prelude.{List, [], ◌∷◌}
use Rattle.nr_vectors.specs.declared.cell.Cell.{Cell}
use Rattle.nr_store.specs.declared.element.Element.{Element}
use Rattle.nr_store.specs.declared.element.Element.TheVariants as elements

-- each of these elements is a cell
abbrev pub AreCells : List Element → Type 0
AreCells [] = Unit {0}
AreCells (elements.Cell x ∷ xs) = AreCells xs
AreCells (x ∷ xs) = ⊥

-- the cells among these elements
abbrev pub cells_of : List Element → List Cell
cells_of [] = []
cells_of (elements.Cell x ∷ xs) = x ∷ cells_of xs
cells_of (x ∷ xs) = cells_of xs
