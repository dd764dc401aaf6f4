use Rattle.std.proofs.Common.{◌≡◌, ◌++◌, take}
use Rattle.preconv_coding.proofs.wide.joined.Given as goal

abbrev pub invariant-loop-byte : goal.invariant-loop-byte
invariant-loop-byte l = l.text ≡ l.fn.prefix ++ take l.byte-index l.rest
