use Rattle.std.proofs.Common.{arith}
use Rattle.std.proofs.lemmas.Grind.{common_steps}
use Rattle.mdoc_converter.proofs.definitions.keep_own.Goals as goal

pub push-requires-then-is_new : goal.push-requires-then-is_new
push-requires-then-is_new c = grind (arith, common_steps)
