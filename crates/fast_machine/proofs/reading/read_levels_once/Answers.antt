use Rattle.std.proofs.Common.{refl}
use Rattle.nr_machine.specs.Holding.{shape}
use Rattle.fast_machine.proofs.ReadRuns.{makes_reading}
use Rattle.fast_machine.proofs.reading.read_levels_once.Goals as goal

pub returns-clause-reads : goal.returns-clause-reads
returns-clause-reads c =
    let run = c.read_levels-run.result in
    let e = shape c.args.engine.now in
    record {
      makes = λ supply.
          makes_reading run.moves run.event c.read_levels-run.new.store c.read_levels-run.new.reader e.place e supply supply
          (record { springs = c.reads_next.ensures.springs c.if-not-reads_next.false; event = c.reads_next.ensures.event c.if-not-reads_next.false; task = c.reads_next.ensures.task c.if-not-reads_next.false })
          (λ k holds. c.read_levels-run.ensures.read k e.place supply holds) (c.read_levels-run.ensures.pays e.place) c.read_levels-run.ensures.limits c.fit_memory.ensures;
      place = refl;
    }
