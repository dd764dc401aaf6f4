use Rattle.nr_formatter.proofs.Falling.{on_ok}
use Rattle.nr_formatter.proofs.InputFalls.{falls-ejected_to}
use Rattle.nr_formatter.proofs.formatter.Formatter.eject_to.Goals as goal

pub returns-clause-falls : goal.returns-clause-falls
returns-clause-falls c = λ names. on_ok c.spring.result (falls-ejected_to _ c.args.self.now c.spring.new.self) (c.spring.ensures.text names)
