use Rattle.std.proofs.Common.{ap}
use Rattle.nr_formatter.specs.Limits as formatter
use Rattle.nr_machine.specs.Holding.{shape}
use Rattle.nr_machine.proofs.LimitsStay.{page-limits}
use Rattle.nr_machine.proofs.engine.Engine.begin_page.Goals as goal

pub returns-clause-limits : goal.returns-clause-limits
returns-clause-limits c =
    let e = shape c.args.self.now in
    page-limits e (record e { formatter = c.begin_page.new.self; page = c.clear.new.self }) (ap formatter.limits_of c.begin_page.ensures.is) c.clear.ensures.limit
