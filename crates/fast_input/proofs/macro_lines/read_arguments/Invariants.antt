use Rattle.std.proofs.Common.{◌+◌, ◌*◌, ◌≤◌}
use Rattle.fast_input.specs.MacroLines.{ReadsOn}
use Rattle.fast_input.proofs.macro_lines.read_arguments.Given as goal

abbrev pub invariant-loop : goal.invariant-loop
invariant-loop g l = record {
  reads : ReadsOn l.moves l.taken l.bytes l.fn.store l.fn.reader l.store l.reader;
  few : l.moves ≤ 2 * l.taken + 4 * l.counter;
}
