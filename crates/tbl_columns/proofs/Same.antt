-- An item that is put in its own place changes nothing.
use Rattle.std.proofs.Common.{◌≡◌, ℕ, zero, suc, Bool, List, [], ◌∷◌, get_or, nat_lt, refl, sym, ap, ◌∙◌}
use Rattle.std.specs.Prelude.{slice_set}
use Rattle.nr_vectors.specs.Items.{Items}
use Rattle.tbl_columns.specs.declared.grid.Cell.{Cell}
use Rattle.tbl_columns.specs.declared.grid.Grid.{Grid}
use Rattle.tbl_columns.specs.declared.grid.Placed.{Placed}
use Rattle.tbl_columns.specs.Cells.{settled_cell}
use Rattle.tbl_columns.specs.Held.{cell_of, no_cell, no_place, placed}
use Rattle.tbl_table.specs.Lists.{put}

set_own : {T : Type 0} (xs : List T) (n : ℕ) (d : T) → slice_set xs n (get_or xs n d) ≡ xs
set_own [] n d = refl
set_own (x ∷ xs) zero d = refl
set_own (x ∷ xs) (suc n) d = ap (λ ys. x ∷ ys) (set_own xs n d)

pub put_own : {T : Type 0} (n : ℕ) (d : T) (xs : Items T) → put n (get_or xs.items n d) xs ≡ xs
put_own {T} n d xs = ap (λ (ys : List T). record xs { items = ys }) (set_own xs.items n d)

-- a row whose last row that takes room is known
pub row_own : (n own : ℕ) (g : Grid) → (placed g n).last_own ≡ own
    → record g { placed = put n (record (placed g n) { last_own = own }) g.placed } ≡ g
row_own n own g is =
    ap (λ (o : ℕ). record g { placed = put n (record (placed g n) { last_own = o }) g.placed }) (sym is)
    ∙ ap (λ (rs : Items Placed). record g { placed = rs }) (put_own n no_place g.placed)

-- a cell that ends in a row that takes room
pub cell_own : (n : ℕ) (g : Grid) → (cell_of g n).falls ≡ nat_lt (cell_of g n).top (cell_of g n).bottom
    → (cell_of g n).bottom ≡ (placed g (cell_of g n).bottom).last_own → settled_cell n g ≡ g
cell_own n g falls bottom =
    let f = cell_of g n in
    ap (λ (b : Bool). record g { cells = put n (record f { falls = b; bottom = (placed g f.bottom).last_own }) g.cells }) (sym falls)
    ∙ ap (λ (m : ℕ). record g { cells = put n (record f { bottom = m }) g.cells }) (sym bottom)
    ∙ ap (λ (cs : Items Cell). record g { cells = cs }) (put_own n no_cell g.cells)
