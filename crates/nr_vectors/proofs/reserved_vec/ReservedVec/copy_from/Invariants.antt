use Rattle.std.proofs.Common.{◌≡◌, ◌++◌, take, vec_capacity}
use Rattle.nr_vectors.proofs.reserved_vec.ReservedVec.copy_from.Given as goal

abbrev pub invariant-loop-item : goal.invariant-loop-item
invariant-loop-item g l = record {
  items : l.self-inside.items.items ≡ l.initial.self-inside.items.items ++ take l.item-index l.more;
  room : vec_capacity l.self-inside.items ≡ vec_capacity l.initial.self-inside.items;
}
