use Rattle.std.proofs.Common.{◌≡◌, length}
use Rattle.utf8_converter.specs.Spelling.{Spells}
use Rattle.utf8_converter.proofs.spelling.Spelling.new.Given as goal

abbrev pub invariant-loop-place : goal.invariant-loop-place
invariant-loop-place l = record {
  spells : Spells l.table l.place l.all l.whole;
  long : length l.all ≡ 256;
}
