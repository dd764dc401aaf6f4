use Rattle.std.proofs.Common.{arith}
use Rattle.std.proofs.lemmas.Grind.{common_steps}
use Rattle.tbl_reader.proofs.reader.Reader.formats_line.Goals as goal

pub returns-else-len-self-clause-page : goal.returns-else-len-self-clause-page
returns-else-len-self-clause-page g c = grind (arith, common_steps)
