use Rattle.nr_formatter.proofs.HearingFalls.{falls-text}
use Rattle.nr_formatter.proofs.formatter.Formatter.give_width.Goals as goal

pub returns-clause-falls : goal.returns-clause-falls
returns-clause-falls c = falls-text _ c.args.self.now c.splice.new.self c.in_ok-splice.ensures.ok c.in_ok-splice.ensures.pays
