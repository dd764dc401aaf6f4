use Rattle.std.proofs.Common.{◌≡◌, length, take}
use Rattle.nr_symbol_tables.specs.Word.{letters_of, points_from}
use Rattle.nr_symbol_tables.specs.Given.{IsLonger}
use Rattle.nr_symbol_tables.proofs.word.HyphenationWord.push_places.Given as goal

abbrev pub invariant-loop-byte : goal.invariant-loop-byte
invariant-loop-byte l = record {
  place : l.place ≡ length (letters_of (take l.byte-index l.given));
  longer : IsLonger l.initial.self l.self (points_from 0 (take l.byte-index l.given));
}
