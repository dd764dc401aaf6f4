-- Where no cell is held, nothing is drawn.
use Rattle.std.proofs.Common.{◌≡◌, ◌==◌, ◌&&◌, ℕ, Bool, true, false, List, [], refl, ap, ◌∙◌, if◌then◌else◌}
use Rattle.tbl_columns.specs.declared.grid.Cell.{Cell}
use Rattle.tbl_columns.specs.Held.{block_of, cell, cell_number, no_cell}
use Rattle.tbl_drawing.specs.declared.layout.Layout.{Layout}
use Rattle.tbl_drawing.specs.Drawing.{column_rule, content, falling, on_line, text_in}
use Rattle.tbl_drawing.specs.Pens.{Stroke}
use Rattle.tbl_table.specs.Held.{is_rule}

either : {A : Type 0} (b : Bool) (xs : List A) → (if b then xs else xs) ≡ xs
either true xs = refl
either false xs = refl

pub falling-absent : (l : Layout) (r k line : ℕ) → cell l.grid r k ≡ no_cell → falling l r k line ≡ []
falling-absent l r k line is =
    ap (λ (f : Cell). if f.first == k then on_line (block_of l.grid f) l (cell_number l.grid r k) f line else []) is ∙ either (0 == k) []

text_in-absent : (l : Layout) (r k line : ℕ) → cell l.grid r k ≡ no_cell → text_in l r k line no_cell ≡ []
text_in-absent l r k line is =
    ap (λ (ss : List Stroke). if (0 == r) && (0 == k) then [] else ss) (falling-absent l r k line is)
    ∙ either ((0 == r) && (0 == k)) []

pub content-absent : (l : Layout) (r k line : ℕ) → cell l.grid r k ≡ no_cell → content l r k line ≡ []
content-absent l r k line is =
    ap (λ (f : Cell). if is_rule f.field.form && (f.top == r) then column_rule l r k else text_in l r k line f) is
    ∙ text_in-absent l r k line is
