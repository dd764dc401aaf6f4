use Rattle.std.proofs.Common.{rules, refl}
use Rattle.nr_machine.specs.Holding.{IsEjected}
use Rattle.nr_machine.proofs.Lightening.{falls-unejecting}
use Rattle.nr_machine.proofs.engine.Engine.eject.Goals as goal

pub returns-then-not-is_ejecting-clause-works : goal.returns-then-not-is_ejecting-clause-works
returns-then-not-is_ejecting-clause-works g c = record {
  comes = search rules;
  lightens = (rw c.task-self.ensures (falls-unejecting c.args.ejected c.args.self.now.formatter c.requires.idle c.requires.task), refl);
}

pub returns-in-None-clause-works : goal.returns-in-None-clause-works
returns-in-None-clause-works g c = record {
  comes = search rules;
  lightens = c.end_page.ensures.lightens (IsEjected c.args.ejected c.requires);
}
