use Rattle.std.proofs.Common.{◌≡◌, [], drop}
use Rattle.man_lint.specs.Names.{is_among}
use Rattle.man_lint.proofs.names.is_listed.Given as goal

abbrev pub invariant-loop-byte : goal.invariant-loop-byte
invariant-loop-byte l = is_among l.name (drop l.byte-index l.names) l.word ≡ is_among [] l.names l.word
