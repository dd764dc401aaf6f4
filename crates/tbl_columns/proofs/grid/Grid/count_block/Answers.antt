use Rattle.std.proofs.Common.{ap}
use Rattle.tbl_columns.specs.Held.{emptied}
use Rattle.tbl_table.specs.Held.{none_of}
use Rattle.tbl_columns.proofs.grid.Grid.count_block.Goals as goal

pub returns-clause-room : goal.returns-clause-room
returns-clause-room c = ap (λ columns. record (emptied c.args.self.now) { columns = none_of columns }) c.set_item.ensures
