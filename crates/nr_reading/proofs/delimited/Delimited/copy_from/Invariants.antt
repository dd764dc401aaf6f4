use Rattle.std.proofs.Common.{◌≡◌, length, take}
use Rattle.nr_reading.proofs.delimited.Delimited.copy_from.Given as goal

abbrev pub invariant-loop-place : goal.invariant-loop-place
invariant-loop-place l = record {
  same : take l.place l.self-inside.texts ≡ take l.place l.other-inside.texts;
  long : length l.self-inside.texts ≡ 10;
}
