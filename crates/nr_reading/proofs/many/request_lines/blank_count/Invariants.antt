use Rattle.std.proofs.Common.{◌≡◌, All, take, true}
use Rattle.nr_reading.specs.Spelled.{is_blank}
use Rattle.nr_reading.proofs.many.request_lines.blank_count.Given as goal

abbrev pub invariant-loop-byte : goal.invariant-loop-byte
invariant-loop-byte l = record {
  count : l.count ≡ l.byte-index;
  blanks : All (λ byte. is_blank byte ≡ true) (take l.byte-index l.bytes);
}
