use Rattle.std.proofs.Common.{arith}
use Rattle.std.proofs.lemmas.Grind.{common_steps}
use Rattle.preconv_converter.proofs.reader.Reader.read.Goals as goal

pub returns-then-is_raw-clause-few : goal.returns-then-is_raw-clause-few
returns-then-is_raw-clause-few c = grind (arith, common_steps)
