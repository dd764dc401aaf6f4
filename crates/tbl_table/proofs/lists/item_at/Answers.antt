use Rattle.std.proofs.Common.{arith}
use Rattle.std.proofs.lemmas.Grind.{common_steps}
use Rattle.tbl_table.proofs.lists.item_at.Goals as goal

pub returns-else-place-len : goal.returns-else-place-len
returns-else-place-len g c = grind (arith, common_steps)
