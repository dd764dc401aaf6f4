use Rattle.nr_reading.specs.declared.event.Event.TheVariants as events
use Rattle.nr_formatter.proofs.HearingFalls.{falls-control, falls-given}
use Rattle.nr_formatter.proofs.formatter.Formatter.give_register.Goals as goal

pub returns-in_default-clause-falls : goal.returns-in_default-clause-falls
returns-in_default-clause-falls c = λ is. falls-control events.Given c.args.self.now is (λ same. cc)

pub returns-clause-falls : goal.returns-clause-falls
returns-clause-falls c = λ is.
    falls-given c.in-Some.register c.args.self.now c.give_given.new.self c.in_ok-give_given.ensures.ok c.in_ok-give_given.ensures.pays
