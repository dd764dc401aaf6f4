use Rattle.std.proofs.Common.{Option, sym, ap}
use Rattle.tbl_blocks.specs.declared.parts.Line.{Line}
use Rattle.tbl_drawing.proofs.Tapes.{draws_nothing, draws_same}
use Rattle.tbl_drawing.specs.Drawing.{line_in}
use Rattle.tbl_drawing.proofs.layout.Layout.draw_block.Goals as goal

pub returns-in-Some : goal.returns-in-Some
returns-in-Some g c =
    draws_same c.draw_some_line.ensures (ap (λ (k : Option Line). line_in k c.args.self.now c.args.cell.now) (sym c.in-Some.ensures))

pub returns-in-None : goal.returns-in-None
returns-in-None g c = draws_same (draws_nothing _) (ap (λ (k : Option Line). line_in k c.args.self.now c.args.cell.now) (sym c.in-None.ensures))
