use Rattle.std.proofs.Common.{arith}
use Rattle.std.proofs.lemmas.Grind.{common_steps}
use Rattle.mdoc_words.proofs.keeping.keep_escape.Goals as goal

pub push-requires-then-len-lt-MOST_KEPT : goal.push-requires-then-len-lt-MOST_KEPT
push-requires-then-len-lt-MOST_KEPT c = grind (arith, common_steps)
