-- Text that makes its column no wider.
use Rattle.std.proofs.Common.{◌≡◌, ℕ, ◌≤◌, false, max, ap, arith, ◌∙◌, if◌then◌else◌}
use Rattle.nr_vectors.specs.Items.{Items}
use Rattle.tbl_columns.specs.declared.grid.Cell.{Cell}
use Rattle.tbl_columns.specs.declared.grid.Column.{Column}
use Rattle.tbl_columns.specs.declared.grid.Grid.{Grid}
use Rattle.tbl_columns.specs.Columns.{prefix_cells, is_alpha, is_number, measured, with_field}
use Rattle.tbl_columns.specs.Counted.{with_alpha, with_number, with_text}
use Rattle.tbl_columns.specs.Held.{column, fresh}
use Rattle.tbl_table.specs.Lists.{put}
use Rattle.tbl_columns.proofs.Choices.{left}
use Rattle.tbl_columns.proofs.Same.{put_own}

pub narrow : (g : Grid) (f : Cell) → is_alpha f ≡ false → is_number f ≡ false
    → f.width ≤ (column g f.first).width → with_field g f (column g f.first) ≡ column g f.first
narrow g f alpha number within =
    let c = column g f.first in
    let most : max c.width f.width ≡ c.width = omega (arith, within) in
    left (is_alpha f) (with_alpha f.width c) (if is_number f then with_number f.width (prefix_cells g f) c else with_text f.width c) alpha
    ∙ left (is_number f) (with_number f.width (prefix_cells g f) c) (with_text f.width c) number
    ∙ ap (λ (m : ℕ). record c { width = m }) most

pub measured_own : (f : Cell) (g : Grid) → with_field g f (column g f.first) ≡ column g f.first → measured f g ≡ g
measured_own f g is =
    ap (λ (c : Column). record g { columns = put f.first c g.columns }) is
    ∙ ap (λ (cs : Items Column). record g { columns = cs }) (put_own f.first fresh g.columns)
