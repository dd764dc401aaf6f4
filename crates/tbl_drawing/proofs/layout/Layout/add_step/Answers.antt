use Rattle.std.proofs.Common.{ap}
use Rattle.tbl_drawing.specs.Held.{emptied}
use Rattle.tbl_table.specs.Held.{none_of}
use Rattle.tbl_drawing.proofs.layout.Layout.add_step.Goals as goal

pub returns-clause-room : goal.returns-clause-room
returns-clause-room c = ap (λ steps. record (emptied c.args.self.now) { steps = none_of steps }) c.add_item.ensures
