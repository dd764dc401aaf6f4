use Rattle.std.proofs.Common.{◌≡◌, true, take}
use Rattle.nr_formatter.specs.Many.CellBytes.{PutsCellBytes}
use Rattle.nr_formatter.specs.Many.Runs.{is_in_line}
use Rattle.nr_formatter.proofs.formatter.Formatter.add_bytes.Given as goal

abbrev pub invariant-loop-byte : goal.invariant-loop-byte
invariant-loop-byte l = record {
  count : l.count ≡ l.byte-index;
  line : is_in_line l.self ≡ true;
  puts : PutsCellBytes (take l.byte-index l.bytes) l.fn.self l.self;
}
