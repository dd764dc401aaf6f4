use Rattle.nr_engine.proofs.desk.Desk.new.Goals as goal

pub returns-clause-taken : goal.returns-clause-taken
returns-clause-taken c = c.in_ok-new.ensures.taken
