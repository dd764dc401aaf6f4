use Prim.Native.Char.{code}
use Rattle.std.proofs.Common.{◌≡◌, ◌+◌, ◌-◌, ◌≤◌, length, drop}
use Rattle.preconv_converter.specs.Runs.{byte_before, run_after}
use Rattle.preconv_converter.proofs.runs.text_run.Given as goal

abbrev pub invariant-loop-more : goal.invariant-loop-more
invariant-loop-more l = record {
  within : l.run ≤ length l.bytes;
  run : run_after (code ".") l.bytes ≡ l.run + run_after (byte_before l.bytes l.run) (drop l.run l.bytes);
}

abbrev pub decreases-loop-more : goal.decreases-loop-more
decreases-loop-more l = length l.bytes - l.run
