use Rattle.std.proofs.Common.{◌≡◌, ◌≤◌, true}
use Rattle.nr_formatter.specs.Many.Runs.{is_in_line}
use Rattle.nr_machine.specs.Holding.{shape}
use Rattle.fast_machine.specs.Running.{MakesInPlace}
use Rattle.fast_machine.proofs.level_text.put_level_text.Given as goal

abbrev pub invariant-loop : goal.invariant-loop
invariant-loop l = record {
  puts : MakesInPlace l.moves (shape l.fn.engine) (shape l.engine);
  line : is_in_line l.engine.formatter ≡ true;
  few : l.moves ≤ 65536;
}
