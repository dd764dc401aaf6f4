use Rattle.std.proofs.Common.{ℕ, List, Option, [], ◌∷◌, sym, ap}
use Rattle.tbl_columns.specs.declared.grid.Block.{Block}
use Rattle.tbl_drawing.proofs.Joined.{bytes_as}
use Rattle.tbl_drawing.proofs.Tapes.{draws_no_bytes}
use Rattle.tbl_drawing.specs.Lines.{definitions_of}
use Rattle.tbl_table.specs.Held.{text_of}
use Rattle.tbl_drawing.proofs.layout.Layout.put_definitions_of.Goals as goal

pub returns-in-Some : goal.returns-in-Some
returns-in-Some g c =
    let text = text_of c.args.self.now.grid.table c.args.cell.now.field.span in
    bytes_as c.put_definitions_if.ensures (ap (λ (b : Option Block). definitions_of b text) (sym c.in-Some.ensures))

pub returns-in-None : goal.returns-in-None
returns-in-None g c =
    let text = text_of c.args.self.now.grid.table c.args.cell.now.field.span in
    bytes_as (draws_no_bytes _) (ap (λ (b : Option Block). definitions_of b text) (sym c.in-None.ensures))
