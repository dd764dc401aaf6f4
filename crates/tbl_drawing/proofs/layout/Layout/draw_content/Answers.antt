use Rattle.std.proofs.Common.{arith, ◌≡◌, ℕ, List, get_or, ◌==◌, ◌&&◌, ap, sym, ◌∙◌}
use Rattle.std.proofs.lemmas.Bool.Decides.{nat_tests}
use Rattle.std.proofs.lemmas.List.{get_or_default, get_or_past}
use Rattle.tbl_columns.specs.declared.grid.Cell.{Cell}
use Rattle.tbl_columns.specs.Held.{cell, cell_number, no_cell}
use Rattle.tbl_drawing.specs.Drawing.{column_rule, text_in}
use Rattle.tbl_table.specs.Held.{is_rule}
use Rattle.tbl_drawing.proofs.Absent.{content-absent}
use Rattle.tbl_drawing.proofs.Choices.{chosen, other}
use Rattle.tbl_drawing.proofs.Tapes.{draws_nothing, draws_same}
use Rattle.tbl_drawing.proofs.layout.Layout.draw_content.Goals as goal

pub returns-in_default : goal.returns-in_default
returns-in_default g c =
    let l = c.args.self.now in
    let t = l.grid in
    let is : cell t c.args.row c.args.column ≡ no_cell =
    ap (λ (xs : List Cell). get_or xs (cell_number t c.args.row c.args.column) no_cell) (sym c.as_slice-cells.ensures.value)
    ∙ ap (λ (n : ℕ). get_or c.as_slice-cells.result.now n no_cell) (sym c.cell_number.ensures)
    ∙ get_or_past c.as_slice-cells.result.now c.cell_number.result no_cell (grind (arith, nat_tests, c.in_default.ensures.lookup.0)) in
    draws_same (draws_nothing _) (content-absent l c.args.row c.args.column c.args.line is)

pub returns-then-rules_in : goal.returns-then-rules_in
returns-then-rules_in g c =
    let l = c.args.self.now in
    let t = l.grid in
    let r = c.args.row in
    let k = c.args.column in
    let f = cell t r k in
    let is : cell t r k ≡ c.in-Some.cell.now =
    ap (λ (xs : List Cell). get_or xs (cell_number t r k) no_cell) (sym c.as_slice-cells.ensures.value)
    ∙ ap (λ (n : ℕ). get_or c.as_slice-cells.result.now n no_cell) (sym c.cell_number.ensures)
    ∙ get_or_default c.as_slice-cells.result.now c.cell_number.result no_cell c.in-Some.cell.now (grind (arith, nat_tests, c.in-Some.ensures.lookup.0))
    ∙ sym c.in-Some.ensures.lookup.1 in
    draws_same c.draw_column_rule.ensures
    (chosen (is_rule f.field.form && (f.top == r)) (column_rule l r k) (text_in l r k c.args.line f)
    (ap (λ (x : Cell). is_rule x.field.form && (x.top == r)) is ∙ sym c.rules_in.ensures ∙ c.if-rules_in.true))

pub returns : goal.returns
returns g c =
    let l = c.args.self.now in
    let t = l.grid in
    let r = c.args.row in
    let k = c.args.column in
    let f = cell t r k in
    let is : cell t r k ≡ c.in-Some.cell.now =
    ap (λ (xs : List Cell). get_or xs (cell_number t r k) no_cell) (sym c.as_slice-cells.ensures.value)
    ∙ ap (λ (n : ℕ). get_or c.as_slice-cells.result.now n no_cell) (sym c.cell_number.ensures)
    ∙ get_or_default c.as_slice-cells.result.now c.cell_number.result no_cell c.in-Some.cell.now (grind (arith, nat_tests, c.in-Some.ensures.lookup.0))
    ∙ sym c.in-Some.ensures.lookup.1 in
    draws_same c.draw_text_in.ensures
    (other (is_rule f.field.form && (f.top == r)) (column_rule l r k) (text_in l r k c.args.line f)
    (ap (λ (x : Cell). is_rule x.field.form && (x.top == r)) is ∙ sym c.rules_in.ensures ∙ c.if-rules_in.false)
    ∙ ap (λ (x : Cell). text_in l r k c.args.line x) is)
