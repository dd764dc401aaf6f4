use Rattle.std.proofs.Common.{◌≡◌, ◌<◌, take}
use Rattle.nr_symbol_tables.specs.Hyphenation.{kind}
use Rattle.nr_symbol_tables.proofs.hyphenation.kind_of.Given as goal

abbrev pub invariant-loop-letter : goal.invariant-loop-letter
invariant-loop-letter l = record { is : l.kind ≡ kind (take l.letter-index l.letters); few : l.kind < 256 }
