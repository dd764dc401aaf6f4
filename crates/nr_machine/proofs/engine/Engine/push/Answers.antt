use Rattle.std.proofs.Common.{[], ◌∷◌, replicate}
use Rattle.nr_vectors.specs.Cell.{blank}
use Rattle.nr_fill.specs.CellRow.{AddsToRow-both}
use Rattle.nr_machine.proofs.engine.Engine.push.Goals as goal

pub returns-clause-row : goal.returns-clause-row
returns-clause-row c =
    AddsToRow-both c.args.self.now.row c.blanks.new.self c.push.new.self (replicate c.args.margin blank) (c.args.cell ∷ []) c.blanks.ensures c.push.ensures
