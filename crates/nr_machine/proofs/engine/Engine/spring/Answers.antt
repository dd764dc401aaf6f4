use Rattle.std.proofs.Common.{rules}
use Rattle.nr_machine.specs.Holding.{shape}
use Rattle.nr_machine.proofs.LimitsStay.{formatter-limits}
use Rattle.nr_machine.proofs.engine.Engine.spring.Goals as goal

pub returns-clause-works : goal.returns-clause-works
returns-clause-works c = search rules

pub returns-clause-limits : goal.returns-clause-limits
returns-clause-limits c = formatter-limits (shape c.args.self.now) c.spring.new.self c.spring.ensures.limits
