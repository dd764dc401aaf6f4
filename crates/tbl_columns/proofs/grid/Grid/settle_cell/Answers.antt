use Rattle.std.proofs.lemmas.Grind.{common_steps}
use Rattle.std.proofs.Common.{ap, arith}
use Rattle.tbl_columns.specs.Held.{emptied}
use Rattle.tbl_table.specs.Held.{none_of}
use Rattle.tbl_columns.proofs.grid.Grid.settle_cell.Goals as goal

pub returns-clause-room : goal.returns-clause-room
returns-clause-room c = ap (λ cells. record (emptied c.args.self.now) { cells = none_of cells }) c.set_item.ensures

pub returns-then-cell-falls-clause-value : goal.returns-then-cell-falls-clause-value
returns-then-cell-falls-clause-value c = grind (arith, common_steps)
