use Rattle.std.proofs.Common.{◌-◌, ◌<◌, ◌≤◌, length}
use Rattle.preconv_converter.specs.Letters as specs
use Rattle.preconv_converter.proofs.letters.run_of.Given as goal

abbrev pub invariant-loop-count : goal.invariant-loop-count
invariant-loop-count l = record {
  out : specs.GoOut l.count l.bytes l.steps;
  some : 0 < l.count;
  within : l.count ≤ length l.bytes;
  quick : l.steps ≤ l.count;
}

abbrev pub decreases-loop-count : goal.decreases-loop-count
decreases-loop-count l = length l.bytes - l.count
