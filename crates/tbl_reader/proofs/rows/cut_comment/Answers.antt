use Rattle.std.proofs.Common.{arith}
use Rattle.std.proofs.lemmas.Grind.{common_steps}
use Rattle.tbl_reader.proofs.rows.cut_comment.Goals as goal

pub overflow_add-start : goal.overflow_add-start
overflow_add-start c = grind (arith, common_steps)

pub truncate-requires : goal.truncate-requires
truncate-requires c = grind (arith, common_steps)

pub returns-in-None-clause-items : goal.returns-in-None-clause-items
returns-in-None-clause-items c = grind (arith, common_steps)
