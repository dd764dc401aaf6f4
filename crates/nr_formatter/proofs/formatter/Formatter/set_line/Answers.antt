use Rattle.std.proofs.Common.{arith, rules}
use Rattle.std.proofs.lemmas.Grind.{common_steps}
use Rattle.nr_formatter.specs.Lines.{after_line}
use Rattle.nr_formatter.proofs.WorkFalls.{falls-at}
use Rattle.nr_formatter.proofs.LineFalls.{falls-after_line}
use Rattle.nr_formatter.proofs.formatter.Formatter.set_line.Goals as goal

pub returns-clause-falls : goal.returns-clause-falls
returns-clause-falls g c = falls-at 5 0 c.args.self.now _ (after_line c.args.going c.args.self.now) (first_of (search rules, grind (arith, common_steps))) (falls-after_line c.args.going c.args.self.now c.requires)
