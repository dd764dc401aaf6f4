use Rattle.std.proofs.Common.{◌≡◌, take}
use Rattle.nr_formatter.proofs.request_line.RequestLine.of.Given as goal

abbrev pub invariant-loop-byte : goal.invariant-loop-byte
invariant-loop-byte l = l.line ≡ take l.byte-index l.text
