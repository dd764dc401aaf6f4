use Rattle.std.proofs.Common.{◌≡◌, ◌≤◌}
use Rattle.nr_reading.specs.declared.event.Event.TheVariants as events
use Rattle.nr_machine.specs.Holding.{shape}
use Rattle.fast_machine.specs.Running.{MakesReading}
use Rattle.fast_machine.proofs.obeying.obey_lines.Given as goal

abbrev pub invariant-loop : goal.invariant-loop
invariant-loop g l = record {
  reads : MakesReading l.moves (shape l.fn.engine) (shape l.engine) (g.R.Source.supply l.fn.input) (g.R.Source.supply l.input) (g.R.Source.failures l.fn.input) (g.R.Source.failures l.input);
  request : l.engine.formatter.event ≡ events.Request;
  few : l.moves ≤ 131072;
}
