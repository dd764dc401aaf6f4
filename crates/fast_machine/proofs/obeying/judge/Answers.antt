use Rattle.std.proofs.Common.{sym, ◌∙◌}
use Rattle.nr_machine.specs.Holding.{shape}
use Rattle.fast_machine.proofs.Judged.{makes_judged, none_of}
use Rattle.fast_machine.proofs.obeying.judge.Goals as goal

pub returns-clause-judges : goal.returns-clause-judges
returns-clause-judges c =
    rw c.judge.ensures (makes_judged c.args.question (shape c.args.engine.now) c.requires.event (none_of c.args.engine.now.formatter.springs (sym c.is_some.ensures ∙ c.if-is_some.false)))
