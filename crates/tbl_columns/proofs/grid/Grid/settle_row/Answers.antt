use Rattle.std.proofs.lemmas.Grind.{common_steps}
use Rattle.std.proofs.Common.{ap, arith}
use Rattle.tbl_columns.specs.Held.{emptied}
use Rattle.tbl_table.specs.Held.{none_of}
use Rattle.tbl_columns.proofs.grid.Grid.settle_row.Goals as goal

pub returns-clause-room : goal.returns-clause-room
returns-clause-room c = ap (λ places. record (emptied c.args.self.now) { placed = none_of places }) c.set_item.ensures

pub returns-then-row-last_own-clause-value : goal.returns-then-row-last_own-clause-value
returns-then-row-last_own-clause-value c = grind (arith, common_steps)
