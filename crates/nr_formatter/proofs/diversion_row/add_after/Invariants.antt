use Rattle.std.proofs.Common.{◌≡◌, replicate}
use Rattle.nr_vectors.specs.Cell.{blank}
use Rattle.nr_formatter.specs.DiversionRow.{with_cells}
use Rattle.nr_formatter.proofs.diversion_row.add_after.Given as goal

abbrev pub invariant-loop-blank : goal.invariant-loop-blank
invariant-loop-blank l = l.store ≡ with_cells (replicate l._blank blank) l.fn.store
