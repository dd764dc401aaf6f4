use Rattle.std.proofs.Common.{Option, sym, ap}
use Rattle.tbl_columns.specs.declared.grid.Block.{Block}
use Rattle.tbl_drawing.proofs.Tapes.{draws_same}
use Rattle.tbl_drawing.specs.Drawing.{on_line}
use Rattle.tbl_drawing.proofs.layout.Layout.draw_on.Goals as goal

pub returns-in-Some : goal.returns-in-Some
returns-in-Some g c =
    draws_same c.draw_block_on.ensures (ap (λ (b : Option Block). on_line b c.args.self.now c.args.number c.args.cell.now c.args.line) (sym c.in-Some.ensures))

pub returns-in-None : goal.returns-in-None
returns-in-None g c =
    draws_same c.draw_text_on.ensures (ap (λ (b : Option Block). on_line b c.args.self.now c.args.number c.args.cell.now c.args.line) (sym c.in-None.ensures))
