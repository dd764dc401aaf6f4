use Rattle.nr_machine.specs.Holding.{shape}
use Rattle.fast_machine.proofs.Running.{in_place-add}
use Rattle.fast_machine.proofs.obeying.answer_after.Goals as goal

pub returns-then-answered-eq0-clause-answers : goal.returns-then-answered-eq0-clause-answers
returns-then-answered-eq0-clause-answers c = rw c.if-answered-eq0.true at c.answer-answered.ensures.answers

pub returns-clause-answers : goal.returns-clause-answers
returns-clause-answers c =
    in_place-add c.answer-answered.result c.read_levels.result (shape c.args.engine.now) (shape c.answer-answered.new.engine) (shape c.read_levels.new.engine)
    c.answer-answered.ensures.answers c.read_levels.ensures.reads
