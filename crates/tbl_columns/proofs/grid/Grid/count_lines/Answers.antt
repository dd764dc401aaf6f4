use Rattle.std.proofs.Common.{ap, ◌∙◌}
use Rattle.tbl_columns.specs.Held.{emptied}
use Rattle.tbl_table.specs.Held.{none_of}
use Rattle.tbl_columns.proofs.grid.Grid.count_lines.Goals as goal

pub returns-clause-room : goal.returns-clause-room
returns-clause-room c =
    ap (λ texts. record (emptied c.args.self.now) { texts = none_of texts; cells = none_of c.set_item-2.new.items }) c.set_item.ensures
    ∙ ap (λ cells. record (emptied c.args.self.now) { cells = none_of cells }) c.set_item-2.ensures
