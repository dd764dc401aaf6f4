use Rattle.std.proofs.Common.{◌≡◌, ◌==◌, ℕ, [], sym, ap, ◌∙◌, if◌then◌else◌}
use Rattle.tbl_columns.specs.Held.{block_of, cell_of}
use Rattle.tbl_columns.specs.declared.grid.Cell.{Cell}
use Rattle.tbl_drawing.proofs.Choices.{chosen, other}
use Rattle.tbl_drawing.proofs.Tapes.{draws_nothing, draws_same}
use Rattle.tbl_drawing.specs.Drawing.{falling, on_line}
use Rattle.tbl_drawing.proofs.layout.Layout.draw_falling.Goals as goal

pub returns-then-not-begins_at : goal.returns-then-not-begins_at
returns-then-not-begins_at g c =
    let l = c.args.self.now in
    let n = c.cell_number-number.result in
    let f = c.cell_of-cell.result in
    let line = c.args.line in
    let column = c.args.column in
    let is : falling l c.args.row column line ≡ (if f.first == column then on_line (block_of l.grid f) l n f line else []) =
    ap (λ (k : ℕ). if (cell_of l.grid k).first == column then on_line (block_of l.grid (cell_of l.grid k)) l k (cell_of l.grid k) line else [])
    (sym c.cell_number-number.ensures)
    ∙ ap (λ (x : Cell). if x.first == column then on_line (block_of l.grid x) l n x line else []) (sym c.cell_of-cell.ensures) in
    draws_same (draws_nothing _)
    (is ∙ other (f.first == column) (on_line (block_of l.grid f) l n f line) [] (sym c.begins_at.ensures ∙ c.if-not-begins_at.true))

pub returns : goal.returns
returns g c =
    let l = c.args.self.now in
    let n = c.cell_number-number.result in
    let f = c.cell_of-cell.result in
    let line = c.args.line in
    let column = c.args.column in
    let is : falling l c.args.row column line ≡ (if f.first == column then on_line (block_of l.grid f) l n f line else []) =
    ap (λ (k : ℕ). if (cell_of l.grid k).first == column then on_line (block_of l.grid (cell_of l.grid k)) l k (cell_of l.grid k) line else [])
    (sym c.cell_number-number.ensures)
    ∙ ap (λ (x : Cell). if x.first == column then on_line (block_of l.grid x) l n x line else []) (sym c.cell_of-cell.ensures) in
    draws_same c.draw_on.ensures
    (is ∙ chosen (f.first == column) (on_line (block_of l.grid f) l n f line) [] (sym c.begins_at.ensures ∙ c.if-not-begins_at.false))
