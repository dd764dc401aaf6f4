use Rattle.std.proofs.Common.{◌≡◌, ◌≤◌, ◌-◌, replicate}
use Rattle.nr_fill.specs.Piece.{line_cells}
use Rattle.nr_formatter.specs.Titles.{with_title_cells}
use Rattle.nr_formatter.proofs.titles.put_copies.Given as goal

abbrev pub invariant-loop-copy : goal.invariant-loop-copy
invariant-loop-copy l = record {
  rest : with_title_cells (replicate (l.n - l._copy) l.cell) l.line.collected ≡ with_title_cells (replicate l.n l.cell) l.initial.line.collected;
  limit : l.line.limit ≡ l.initial.line.limit;
  within : line_cells l.initial.line.collected ≤ l.initial.line.limit → line_cells l.line.collected ≤ l.line.limit;
}
