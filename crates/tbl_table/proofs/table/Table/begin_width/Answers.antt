use Rattle.std.proofs.Common.{refl, ap}
use Rattle.tbl_table.specs.declared.table.Open.TheVariants as opens
use Rattle.tbl_table.specs.Formats.{opening}
use Rattle.tbl_table.proofs.table.Table.begin_width.Goals as goal

pub returns-clause-value : goal.returns-clause-value
returns-clause-value c = ap (λ n. opening (opens.Width n) c.args.self.now) c.len.ensures.value

pub returns-clause-room : goal.returns-clause-room
returns-clause-room c = refl
