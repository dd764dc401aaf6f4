use Rattle.std.proofs.Common.{◌≡◌, ◌≤◌, replicate, Ok}
use Rattle.nr_store.specs.Store.{added, afforded, blank_cell, charge_of}
use Rattle.nr_formatter.proofs.diversions.add_blanks.Given as goal

abbrev pub invariant-loop : goal.invariant-loop
invariant-loop l = record {
  so_far : l.store ≡ added (replicate l.counter blank_cell) l.fn.store;
  afforded : charge_of l.fn.store ≤ l.fn.store.limit → afforded (added (replicate l.counter blank_cell) l.fn.store) (tt {0}) ≡ Ok (tt {0});
}
