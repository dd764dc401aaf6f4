use Rattle.std.proofs.Common.{refl, ap}
use Rattle.tbl_table.proofs.table.Table.formats_begin.Goals as goal

pub returns-clause-value : goal.returns-clause-value
returns-clause-value c = ap (λ n. record c.args.self.now { next_line = n }) c.len-self.ensures.value

pub returns-clause-room : goal.returns-clause-room
returns-clause-room c = refl
