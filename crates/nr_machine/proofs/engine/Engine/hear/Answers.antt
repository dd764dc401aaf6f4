use Rattle.nr_formatter.specs.Moves.{heard}
use Rattle.nr_machine.specs.Holding.{shape}
use Rattle.nr_machine.proofs.Hearing.{works_hearing}
use Rattle.nr_machine.proofs.Working.{formatter_works}
use Rattle.nr_machine.proofs.engine.Engine.hear.Goals as goal

pub returns-clause-works : goal.returns-clause-works
returns-clause-works c =
    let falls = c.hear.ensures.falls c.requires.event c.requires.busy in
    rw c.of_answer.ensures (works_hearing c.args.event (shape c.args.self.now) _ _ c.requires.busy c.in_default.not-DivertedCell
    (formatter_works (heard c.args.event) (shape c.args.self.now) c.hear.new.self c.hear.result c.hear.ensures.result c.hear.ensures.ok falls))
