use Rattle.nr_machine.specs.Holding.{shape}
use Rattle.fast_machine.proofs.Running.{reading-add}
use Rattle.fast_machine.proofs.reading.read_source.Goals as goal

pub returns-clause-reads : goal.returns-clause-reads
returns-clause-reads g c =
    reading-add c.read_quiet_lines-lines.result c.read_run-run.result (shape c.args.engine.now) (shape c.read_quiet_lines-lines.new.engine) (shape c.read_run-run.new.engine)
    _ _ _ _ _ _ c.read_quiet_lines-lines.ensures.reads c.read_run-run.ensures.reads
