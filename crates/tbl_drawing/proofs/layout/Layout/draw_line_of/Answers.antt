use Rattle.std.proofs.Common.{ℕ, List, Option, [], ◌∷◌, ◌++◌, sym, ap, ◌∙◌}
use Rattle.tbl_drawing.specs.Drawing.{first_of_line, if_sure, line_cells, line_text}
use Rattle.tbl_drawing.specs.Pens.{Stroke, Pass, Text, To, begin}
use Rattle.tbl_table.specs.Sums.{sum}
use Rattle.tbl_drawing.proofs.Tapes.{draws_same, draws_then}
use Rattle.tbl_drawing.proofs.layout.Layout.draw_line_of.Goals as goal

pub returns : goal.returns
returns g c =
    let l = c.args.self.now in
    let f = c.args.cell.now in
    let line = c.args.line in
    let made : ℕ → ℕ → Option ℕ → List Stroke = λ place byte cells. To place ∷ begin byte ++ Text (line_text l line) ∷ Pass cells ∷ [] in
    let cells : Option ℕ = if_sure f.sure (line_cells line) in
    draws_same (draws_then (draws_then c.to.ensures c.begin.ensures) (draws_then c.put_line_of.ensures c.passed.ensures))
    (ap (λ (n : ℕ). made (sum n line.indent) (first_of_line l line) cells) (sym c.begin_of.ensures)
    ∙ ap (λ (n : ℕ). made n (first_of_line l line) cells) (sym c.saturating_add.ensures)
    ∙ ap (λ (b : ℕ). made c.saturating_add.result b cells) (sym c.first_of_line.ensures)
    ∙ ap (λ (w : ℕ). made c.saturating_add.result c.first_of_line.result (if_sure f.sure w)) (sym c.line_cells.ensures)
    ∙ ap (λ (w : Option ℕ). made c.saturating_add.result c.first_of_line.result w) (sym c.cells_if.ensures))
