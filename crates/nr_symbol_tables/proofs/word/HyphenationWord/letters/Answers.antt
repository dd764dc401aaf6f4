use Rattle.std.proofs.Common.{arith}
use Rattle.std.proofs.lemmas.Grind.{common_steps}
use Rattle.nr_symbol_tables.proofs.word.HyphenationWord.letters.Goals as goal

pub returns-clause-letters : goal.returns-clause-letters
returns-clause-letters c = grind (arith, common_steps)
