use Rattle.std.proofs.Common.{sym, ◌∙◌, []}
use Rattle.tbl_drawing.specs.Drawing.{dash, goes_on, rule_stop}
use Rattle.tbl_drawing.proofs.Choices.{other}
use Rattle.tbl_drawing.proofs.Chosen.{strokes_chosen}
use Rattle.tbl_drawing.proofs.Tapes.{draws_nothing, draws_same}
use Rattle.tbl_drawing.proofs.layout.Layout.end_column_rule.Goals as goal

pub returns-then-goes_on : goal.returns-then-goes_on
returns-then-goes_on g c =
    let t = c.args.self.now in
    strokes_chosen (goes_on t c.args.row c.args.column) (dash t (rule_stop t c.args.column)) (draws_nothing _)
    (sym c.goes_on.ensures ∙ c.if-goes_on.true)

pub returns : goal.returns
returns g c =
    let t = c.args.self.now in
    draws_same c.draw_dash.ensures
    (other (goes_on t c.args.row c.args.column) [] (dash t (rule_stop t c.args.column)) (sym c.goes_on.ensures ∙ c.if-goes_on.false) ∙ cc)
