-- What is left to look at.
use Rattle.std.proofs.Common.{◌≡◌, ◌+◌, drop}
use Rattle.utf8_characters.specs.Tables.{byte_in}
use Rattle.utf8_characters.proofs.table.byte_in.Given as goal

abbrev pub invariant-loop-character : goal.invariant-loop-character
invariant-loop-character l = record {
  byte : l.byte ≡ 127 + l.character-index;
  left : byte_in 128 l.characters l.code ≡ byte_in (l.byte + 1) (drop l.character-index l.characters) l.code;
}
