use Rattle.fast_input.proofs.LevelParts.{many_of_all}
use Rattle.nr_machine.specs.Holding.{shape}
use Rattle.fast_machine.proofs.ReadRuns.{makes_reading}
use Rattle.fast_machine.proofs.reading.read_run.Goals as goal

pub returns-clause-reads : goal.returns-clause-reads
returns-clause-reads g c =
    let run = c.read_next-run.result in
    record {
      makes = makes_reading run.moves run.event c.read_next-run.new.store c.read_next-run.new.reader c.read_next-run.new.place (shape c.args.engine.now) _ _
          (record { springs = c.reads_next.ensures.springs c.if-not-reads_next.false; event = c.reads_next.ensures.event c.if-not-reads_next.false; task = c.reads_next.ensures.task c.if-not-reads_next.false })
          c.read_next-run.ensures.read (many_of_all run.moves _ _ _ _ _ _ run.event c.read_next-run.ensures.pays) c.read_next-run.ensures.limits c.fit_memory.ensures;
      failures = c.read_next-run.ensures.failures;
      unfailed = c.read_next-run.ensures.unfailed;
    }
