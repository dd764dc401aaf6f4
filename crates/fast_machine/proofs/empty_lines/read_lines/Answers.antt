use Rattle.nr_machine.specs.Holding.{shape}
use Rattle.fast_machine.proofs.Running.{reading-add, reading_in_place}
use Rattle.fast_machine.proofs.empty_lines.read_lines.Goals as goal

pub returns-then-is_reading-clause-reads : goal.returns-then-is_reading-clause-reads
returns-then-is_reading-clause-reads g c = reading_in_place c.read_levels.result (shape c.args.engine.now) (shape c.read_levels.new.engine) _ _ c.read_levels.ensures.reads

pub returns-in-Empty-clause-reads : goal.returns-in-Empty-clause-reads
returns-in-Empty-clause-reads g c =
    reading-add c.read_source-run.result c.put_empty_lines.result (shape c.args.engine.now) (shape c.read_source-run.new.engine) (shape c.put_empty_lines.new.engine)
    _ _ _ _ _ _ c.read_source-run.ensures.reads c.put_empty_lines.ensures.reads

pub returns-in-Request-clause-reads : goal.returns-in-Request-clause-reads
returns-in-Request-clause-reads g c =
    reading-add c.read_source-run.result c.obey_lines.result (shape c.args.engine.now) (shape c.read_source-run.new.engine) (shape c.obey_lines.new.engine)
    _ _ _ _ _ _ c.read_source-run.ensures.reads c.obey_lines.ensures.reads
