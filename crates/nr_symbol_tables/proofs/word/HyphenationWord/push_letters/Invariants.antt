use Rattle.std.proofs.Common.{take}
use Rattle.nr_symbol_tables.specs.Word.{letters_of}
use Rattle.nr_symbol_tables.specs.Given.{IsLonger}
use Rattle.nr_symbol_tables.proofs.word.HyphenationWord.push_letters.Given as goal

abbrev pub invariant-loop-byte : goal.invariant-loop-byte
invariant-loop-byte l = IsLonger l.initial.self l.self (letters_of (take l.byte-index l.given))
