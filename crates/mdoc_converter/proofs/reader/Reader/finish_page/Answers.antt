use Rattle.std.proofs.Common.{arith}
use Rattle.std.proofs.lemmas.Grind.{common_steps}
use Rattle.mdoc_converter.proofs.reader.Reader.finish_page.Goals as goal

pub returns-in-Asleep-clause-few : goal.returns-in-Asleep-clause-few
returns-in-Asleep-clause-few c = grind (arith, common_steps)
