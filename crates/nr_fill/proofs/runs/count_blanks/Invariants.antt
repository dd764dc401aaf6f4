use Prim.Native.Char.{code}
use Rattle.std.proofs.Common.{◌≡◌, take, replicate}
use Rattle.nr_fill.proofs.runs.count_blanks.Given as goal

abbrev pub invariant-loop-byte : goal.invariant-loop-byte
invariant-loop-byte l = record {
  count : l.count ≡ l.byte-index;
  blanks : take l.byte-index l.bytes ≡ replicate l.byte-index (code " ");
}
