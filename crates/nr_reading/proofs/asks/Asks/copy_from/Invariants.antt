use Rattle.std.proofs.Common.{◌≡◌, length, take}
use Rattle.nr_reading.proofs.asks.Asks.copy_from.Given as goal

abbrev pub invariant-loop-place : goal.invariant-loop-place
invariant-loop-place l = record {
  same : take l.place l.self-inside.asks ≡ take l.place l.other-inside.asks;
  long : length l.self-inside.asks ≡ 10;
}
