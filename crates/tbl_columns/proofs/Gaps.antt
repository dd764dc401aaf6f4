-- Spaces that share what is left of the line.
use Rattle.std.proofs.Common.{◌≡◌, ℕ, ◌-◌, ◌==◌, Bool, false, sym, ap, ◌∙◌}
use Rattle.tbl_columns.specs.declared.grid.Grid.{Grid}
use Rattle.tbl_columns.specs.declared.shares.Share.{Share}
use Rattle.tbl_columns.specs.Held.{columns}
use Rattle.tbl_columns.specs.Shares.{all_parts, edges_shared, gaps_shared, has_no_rest, share_of_gaps, some_gaps_shared}
use Rattle.tbl_columns.proofs.Choices.{left}

pub shared_is : (g u v : Grid) (s : Share) (gaps : ℕ) (alone none : Bool) → none ≡ has_no_rest g → none ≡ false → s ≡ share_of_gaps g
    → gaps ≡ columns g - 1 → alone ≡ (all_parts g == 0) → u ≡ gaps_shared gaps s alone g → v ≡ edges_shared s u → v ≡ some_gaps_shared g
shared_is g u v s gaps alone none rest some share count single shared edges =
    let all : Grid = gaps_shared (columns g - 1) (share_of_gaps g) (all_parts g == 0) g in
    edges
    ∙ ap (edges_shared s) shared
    ∙ ap (λ (k : ℕ). edges_shared s (gaps_shared k s alone g)) count
    ∙ ap (λ (b : Bool). edges_shared s (gaps_shared (columns g - 1) s b g)) single
    ∙ ap (λ (x : Share). edges_shared x (gaps_shared (columns g - 1) x (all_parts g == 0) g)) share
    ∙ sym (left (has_no_rest g) all (edges_shared (share_of_gaps g) all) (sym rest ∙ some))
