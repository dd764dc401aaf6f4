-- What goes out, and where it does.
use Rattle.std.proofs.Common.{◌≡◌, ℕ, List, [], ◌∷◌, ◌++◌, replicate, refl}
use Rattle.nr_vectors.specs.Cell.{blank}
use Rattle.nr_vectors.specs.declared.cell.Cell.{Cell}
use Rattle.nr_formatter.specs.declared.paper.Outlet.{Outlet}
use Rattle.nr_formatter.specs.declared.paper.Outlet.TheVariants as outlets
use Rattle.nr_machine.specs.State.{State}
use Rattle.nr_machine.specs.Machine.{cell_to, with_cell, margin_in}

-- a cell that is not diverted
pub cells : (o : Outlet) (x : Cell) (s : State) → (o ≡ outlets.Diversion → ⊥) → cell_to o x s ≡ cell_to outlets.Room x s
cells outlets.Diversion x s other = absurd (other refl)
cells outlets.NoPage x s other = refl
cells outlets.Full x s other = refl
cells outlets.Room x s other = refl

-- what is added to a row with a cell
pub with_cell-is : (margin : ℕ) (x : Cell) (row : List Cell) → with_cell margin x row ≡ row ++ (replicate (margin_in margin row) blank ++ x ∷ [])
with_cell-is margin x [] = refl
with_cell-is margin x (y ∷ ys) = refl
