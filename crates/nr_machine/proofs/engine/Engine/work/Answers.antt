use Rattle.std.proofs.Common.{Ok}
use Rattle.nr_machine.specs.Machine.{begin_page}
use Rattle.nr_machine.specs.Holding.{shape, WorksQuietly}
use Rattle.nr_machine.proofs.Moving.{acts_of}
use Rattle.nr_machine.proofs.Working.{works_loudly}
use Rattle.nr_machine.proofs.engine.Engine.work.Goals as goal

pub returns-in-Begin-clause-acts : goal.returns-in-Begin-clause-acts
returns-in-Begin-clause-acts g c =
    let e = shape c.args.self.now in
    let f = shape c.begin_page.new.self in
    let under_way = c.requires.under_way in
    let begins : WorksQuietly begin_page e f (Ok tt) = record { comes = c.begin_page.ensures.comes; lightens = c.begin_page.ensures.begun _ (rw c.in-Begin.is at under_way) } in
    rw c.in-Begin.is (acts_of begin_page e f _ _ (Ok tt) (works_loudly begin_page e f _ begins))
