use Rattle.nr_formatter.specs.Moves.{worked}
use Rattle.nr_machine.specs.Holding.{shape}
use Rattle.nr_machine.proofs.Working.{formatter_works}
use Rattle.nr_machine.proofs.LimitsStay.{formatter-limits}
use Rattle.nr_machine.proofs.engine.Engine.work_plainly.Goals as goal

pub returns : goal.returns
returns c =
    let falls = c.work.ensures.falls c.requires.under_way.idle c.requires.under_way.task c.requires.plain in
    record { works = rw c.of_answer.ensures (formatter_works (worked c.args.task) (shape c.args.self.now) c.work.new.self c.work.result c.work.ensures.result c.work.ensures.ok falls); limits = formatter-limits (shape c.args.self.now) c.work.new.self c.work.ensures.limits }
