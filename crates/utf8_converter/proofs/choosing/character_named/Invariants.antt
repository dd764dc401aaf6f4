-- What is left to look at.
use Rattle.std.proofs.Common.{◌≡◌, drop}
use Rattle.utf8_converter.specs.Choosing.{character_named}
use Rattle.utf8_converter.proofs.choosing.character_named.Given as goal

abbrev pub invariant-loop-name : goal.invariant-loop-name
invariant-loop-name l = character_named l.names l.first l.second ≡ character_named (drop l.name-index l.names) l.first l.second
