use Rattle.std.proofs.Common.{◌≡◌, ◌≤◌, length, map, take}
use Rattle.preconv_coding.specs.Tag.{lowered}
use Rattle.preconv_coding.proofs.names.Coding.named.Given as goal

abbrev pub invariant-loop-byte : goal.invariant-loop-byte
invariant-loop-byte l = record {
  few : length l.name ≤ 32;
  small : l.small ≡ map lowered (take l.byte-index l.name);
}
