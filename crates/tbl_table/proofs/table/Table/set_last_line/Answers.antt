use Rattle.std.proofs.Common.{ap}
use Rattle.tbl_table.specs.Held.{emptied, none_of}
use Rattle.tbl_table.proofs.table.Table.set_last_line.Goals as goal

pub returns-clause-room : goal.returns-clause-room
returns-clause-room c = ap (λ lines. record (emptied c.args.self.now) { lines = none_of lines }) c.set_item.ensures
