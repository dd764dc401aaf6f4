use Rattle.std.proofs.Common.{arith}
use Rattle.std.proofs.lemmas.Grind.{common_steps}
use Rattle.preconv_lines.proofs.half.Half.spelled_up_to.Goals as goal

pub returns-then-byte-end : goal.returns-then-byte-end
returns-then-byte-end c = grind (arith, common_steps)
