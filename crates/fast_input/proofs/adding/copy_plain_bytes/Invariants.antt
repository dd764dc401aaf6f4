use Rattle.std.proofs.Common.{◌≡◌, All, take}
use Rattle.nr_reading.specs.Many.InArgument.{IsPlain}
use Rattle.fast_input.proofs.adding.copy_plain_bytes.Given as goal

abbrev pub invariant-loop-place : goal.invariant-loop-place
invariant-loop-place l = record {
  copied : take l.place l.chunk ≡ take l.place l.bytes;
  plain : All (IsPlain l.ending) (take l.place l.chunk);
}
