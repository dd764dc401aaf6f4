use Rattle.std.proofs.Common.{◌≡◌, ◌-◌, ◌≤◌, ◌++◌, replicate, vec_len, vec_capacity}
use Rattle.nr_vectors.proofs.reserved_vec.ReservedVec.grow.Given as goal

abbrev pub invariant-loop : goal.invariant-loop
invariant-loop g l = record {
  items : l.self-inside.items.items ≡ l.initial.self-inside.items.items ++ replicate (l.counter - vec_len l.initial.self-inside.items) l.item;
  len : vec_len l.self-inside.items ≡ l.counter;
  longer : vec_len l.initial.self-inside.items ≤ l.counter;
  room : vec_capacity l.self-inside.items ≡ vec_capacity l.initial.self-inside.items;
}
