use Rattle.std.proofs.Common.{ap}
use Rattle.tbl_drawing.specs.Held.{emptied}
use Rattle.tbl_table.specs.Held.{none_of}
use Rattle.tbl_drawing.proofs.layout.Layout.add_lines.Goals as goal

pub returns-clause-room : goal.returns-clause-room
returns-clause-room c = ap (λ talls. record (emptied c.args.self.now) { talls = none_of talls }) c.set_item.ensures
