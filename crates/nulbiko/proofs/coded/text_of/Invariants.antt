-- What came and what is to come are the text.
use Rattle.std.proofs.Common.{◌≡◌, length, ◌++◌}
use Rattle.preconv_coding.specs.UnderCoding.{text_from, text_of}
use Rattle.nulbiko.proofs.coded.text_of.Given as goal

abbrev pub invariant-loop-byte : goal.invariant-loop-byte
invariant-loop-byte l = text_of l.page ≡ l.text.items ++ (l.source.ready ++ text_from l.source.part l.source.source.rest.now)

abbrev pub decreases-loop-byte : goal.decreases-loop-byte
decreases-loop-byte l = length (l.source.ready ++ text_from l.source.part l.source.source.rest.now)
