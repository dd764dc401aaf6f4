use Rattle.std.proofs.Common.{◌≡◌, All, take}
use Rattle.nr_reading.specs.Many.InArgument.{IsPlain}
use Rattle.nr_reading.proofs.many.arguments.plain_count.Given as goal

abbrev pub invariant-loop-byte : goal.invariant-loop-byte
invariant-loop-byte l = record {
  count : l.count ≡ l.byte-index;
  plain : All (IsPlain l.ending) (take l.byte-index l.bytes);
}
