use Rattle.std.proofs.Common.{◌==◌, ◌&&◌, sym, ◌∙◌}
use Rattle.tbl_drawing.specs.Drawing.{falling, own_in}
use Rattle.tbl_drawing.proofs.Choices.{chosen, other}
use Rattle.tbl_drawing.proofs.Tapes.{draws_same}
use Rattle.tbl_drawing.proofs.layout.Layout.draw_text_in.Goals as goal

pub returns-then-not-begins_in : goal.returns-then-not-begins_in
returns-then-not-begins_in g c =
    let t = c.args.self.now in
    let r = c.args.row in
    let k = c.args.column in
    let f = c.args.cell.now in
    draws_same c.draw_falling.ensures
    (other ((f.top == r) && (f.first == k)) (own_in t r k c.args.line f) (falling t r k c.args.line)
    (sym c.begins_in.ensures ∙ c.if-not-begins_in.true))

pub returns : goal.returns
returns g c =
    let t = c.args.self.now in
    let r = c.args.row in
    let k = c.args.column in
    let f = c.args.cell.now in
    draws_same c.draw_own.ensures
    (chosen ((f.top == r) && (f.first == k)) (own_in t r k c.args.line f) (falling t r k c.args.line)
    (sym c.begins_in.ensures ∙ c.if-not-begins_in.false))
