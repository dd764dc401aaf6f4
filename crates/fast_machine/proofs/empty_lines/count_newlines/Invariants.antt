use Prim.Native.Char.{code}
use Rattle.std.proofs.Common.{◌≡◌, take, replicate}
use Rattle.fast_machine.proofs.empty_lines.count_newlines.Given as goal

abbrev pub invariant-loop-byte : goal.invariant-loop-byte
invariant-loop-byte l = record {
  count : l.count ≡ l.byte-index;
  newlines : take l.byte-index l.bytes ≡ replicate l.byte-index (code "\n");
}
