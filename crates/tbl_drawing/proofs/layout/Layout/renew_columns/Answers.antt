use Rattle.std.proofs.Common.{ap}
use Rattle.tbl_columns.specs.declared.grid.Grid.{Grid}
use Rattle.tbl_drawing.specs.Held.{emptied}
use Rattle.tbl_drawing.proofs.layout.Layout.renew_columns.Goals as goal

pub returns-clause-room : goal.returns-clause-room
returns-clause-room g c = ap (λ (g : Grid). record (emptied c.args.self.now) { grid = g }) c.read_columns.ensures.room
