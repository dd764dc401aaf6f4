-- What a call leaves and what it answers, together.
use Rattle.std.proofs.Common.{◌≡◌, ℕ, ap, ◌∙◌}
use Rattle.tbl_columns.specs.declared.grid.Grid.{Grid}
use Rattle.tbl_columns.specs.Columns.{Dealing, dealing}

pub dealing_of : (g : Grid) (n : ℕ) (x : Dealing) → g ≡ x.grid → n ≡ x.rest → dealing g n ≡ x
dealing_of g n x p q = ap (λ (a : Grid). dealing a n) p ∙ ap (λ (m : ℕ). dealing x.grid m) q
