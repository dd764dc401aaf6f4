use Rattle.std.proofs.Common.{rules}
use Rattle.nr_formatter.specs.Spacing.{spaced}
use Rattle.nr_formatter.proofs.Falling.{falls-is}
use Rattle.nr_formatter.proofs.PageFalls.{falls-spaced}
use Rattle.nr_formatter.proofs.formatter.Formatter.space_down.Goals as goal

pub returns-clause-falls : goal.returns-clause-falls
returns-clause-falls c = λ none space. let f = c.args.self.now in let n = c.args.distance in
    falls-is 1 0 f _ (spaced n f) (search rules) (falls-spaced n f none space)
