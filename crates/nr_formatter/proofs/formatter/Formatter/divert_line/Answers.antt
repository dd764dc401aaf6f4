use Rattle.std.proofs.Common.{rules}
use Rattle.nr_formatter.proofs.DivertedFalls.{falls_along, falls-divert_line}
use Rattle.nr_formatter.proofs.formatter.Formatter.divert_line.Goals as goal

pub returns-clause-falls : goal.returns-clause-falls
returns-clause-falls c = falls_along (falls-divert_line c.args.going c.args.self.now c.requires.pieces) (search rules)
