use Rattle.std.proofs.Common.{sym, arith}
use Rattle.utf8_own_characters.proofs.Coding.{narrow_within}
use Rattle.utf8_own_characters.proofs.table.OwnTable.sought.Goals as goal

pub overflow_add-result : goal.overflow_add-result
overflow_add-result c = omega (arith, narrow_within _ c.args.cluster.now c.in-Some.place c.requires (sym c.in-Some.ensures))

pub overflow_cast-result : goal.overflow_cast-result
overflow_cast-result c = omega (arith, narrow_within _ c.args.cluster.now c.in-Some.place c.requires (sym c.in-Some.ensures))
