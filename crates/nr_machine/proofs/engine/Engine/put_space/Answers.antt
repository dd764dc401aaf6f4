use Rattle.std.proofs.Common.{refl, rules}
use Rattle.nr_formatter.proofs.PageFalls.{falls-spaceless}
use Rattle.nr_machine.proofs.engine.Engine.put_space.Goals as goal

pub returns-then-is_spaceless-clause-works : goal.returns-then-is_spaceless-clause-works
returns-then-is_spaceless-clause-works g c = record {
  comes = search rules;
  lightens = (falls-spaceless c.args.distance c.args.self.now.formatter c.requires.idle c.requires.task, refl);
}
