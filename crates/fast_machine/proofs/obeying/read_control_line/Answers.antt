use Rattle.fast_input.proofs.LevelParts.{many_of_all}
use Rattle.nr_machine.specs.Holding.{shape}
use Rattle.fast_machine.proofs.ReadRuns.{makes_reading}
use Rattle.fast_machine.proofs.obeying.read_control_line.Goals as goal

pub returns-clause-reads : goal.returns-clause-reads
returns-clause-reads g c =
    let run = c.in-Some.run' in
    record {
      makes = makes_reading run.moves run.event c.read_control_line.new.store c.read_control_line.new.reader c.read_control_line.new.place (shape c.args.engine.now) _ _
          c.requires.next c.in-Some.ensures.read (many_of_all run.moves _ _ _ _ _ _ run.event c.in-Some.ensures.pays) c.in-Some.ensures.limits c.fit_memory.ensures;
      failures = c.read_control_line.ensures.failures;
      unfailed = c.read_control_line.ensures.unfailed;
    }
