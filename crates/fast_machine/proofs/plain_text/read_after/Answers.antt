use Rattle.nr_machine.specs.Holding.{shape}
use Rattle.fast_machine.proofs.Running.{reading_in_place}
use Rattle.fast_machine.proofs.plain_text.read_after.Goals as goal

pub returns-then-is_reading-clause-reads : goal.returns-then-is_reading-clause-reads
returns-then-is_reading-clause-reads g c = reading_in_place c.answer_after.result (shape c.args.engine.now) (shape c.answer_after.new.engine) _ _ c.answer_after.ensures.answers
