use Rattle.std.proofs.Common.{◌≡◌, ◌++◌, take, drop}
use Rattle.nr_pool.proofs.slot.rotate.Given as goal

abbrev pub invariant-loop : goal.invariant-loop
invariant-loop g l = record {
  rotated : l.part ≡ drop l.counter l.fn.part ++ take l.counter l.fn.part;
}
