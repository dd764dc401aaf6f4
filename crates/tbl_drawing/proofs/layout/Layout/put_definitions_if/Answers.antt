use Rattle.std.proofs.Common.{[], ap, sym}
use Rattle.tbl_drawing.proofs.Chosen.{draws_chosen, none_asked}
use Rattle.tbl_drawing.specs.Lines.{definitions_in}
use Rattle.tbl_table.specs.Held.{text_of}
use Rattle.tbl_drawing.proofs.layout.Layout.put_definitions_if.Goals as goal

pub returns-then-not-defines : goal.returns-then-not-defines
returns-then-not-defines g c =
    none_asked c.args.defines (definitions_in [] (text_of c.args.self.now.grid.table c.args.cell.now.field.span)) c.if-not-defines.true

pub returns : goal.returns
returns g c = draws_chosen c.args.defines [] (rw c.bytes.ensures at c.put_definitions_in.ensures) c.if-not-defines.false
