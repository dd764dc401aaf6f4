use Rattle.std.proofs.Common.{◌≤◌}
use Rattle.nr_machine.specs.Holding.{shape}
use Rattle.fast_machine.specs.Running.{MakesInPlace}
use Rattle.fast_machine.proofs.obeying.read_levels.Given as goal

abbrev pub invariant-loop : goal.invariant-loop
invariant-loop l = record {
  reads : MakesInPlace l.moves (shape l.fn.engine) (shape l.engine);
  few : l.moves ≤ 65536;
}
