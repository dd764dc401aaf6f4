use Rattle.std.proofs.Common.{arith}
use Rattle.std.proofs.lemmas.Grind.{common_steps}
use Rattle.nr_formatter.proofs.DivertedFalls.{made_along, falls-diverted_cell}
use Rattle.nr_formatter.proofs.formatter.Formatter.divert_cell.Goals as goal

pub returns-in-Ok-clause-ok : goal.returns-in-Ok-clause-ok
returns-in-Ok-clause-ok c = grind (arith, common_steps)

pub returns-in-Ok-clause-falls : goal.returns-in-Ok-clause-falls
returns-in-Ok-clause-falls c = made_along _ c.add.result (falls-diverted_cell c.args.indent c.args.cell c.args.self.now) (returns-in-Ok-clause-ok c)
