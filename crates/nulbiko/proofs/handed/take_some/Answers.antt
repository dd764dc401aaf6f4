use Rattle.std.proofs.Common.{Ok, Some}
use Rattle.nulbiko.proofs.Handing.{one-came}
use Rattle.nulbiko.proofs.handed.take_some.Goals as goal

pub returns-clause-came : goal.returns-clause-came
returns-clause-came g c =
    one-came _ _ c.args.room.now c.in-Some.byte c.requires (rw c.in-Some.is at (rw c.in_ok-byte.was at c.next.ensures.gives))
