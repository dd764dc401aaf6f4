use Rattle.std.proofs.Common.{[], ap, ap₂}
use Rattle.tbl_drawing.specs.Held.{emptied}
use Rattle.tbl_drawing.proofs.layout.Layout.forget_begins.Goals as goal

pub returns-clause-value : goal.returns-clause-value
returns-clause-value c = ap₂ (λ items capacity. record c.args.self.now { begins = record { items = items; capacity = capacity } }) c.clear.ensures.items c.clear.ensures.room

pub returns-clause-room : goal.returns-clause-room
returns-clause-room c = ap (λ capacity. record (emptied c.args.self.now) { begins = record { items = []; capacity = capacity } }) c.clear.ensures.room
