use Rattle.std.proofs.Common.{◌≡◌, ◌≤◌, drop, map}
use Rattle.nr_fill.specs.Piece.{line_cells}
use Rattle.nr_settings.specs.Fonts.{cell_of}
use Rattle.nr_formatter.specs.Titles.{with_title_cells}
use Rattle.nr_formatter.proofs.titles.put_bytes.Given as goal

abbrev pub invariant-loop-byte : goal.invariant-loop-byte
invariant-loop-byte l = record {
  rest : with_title_cells (map (λ b. cell_of b l.fonts) (drop l.byte-index l.bytes)) l.line.collected ≡ with_title_cells (map (λ b. cell_of b l.fonts) l.bytes) l.initial.line.collected;
  limit : l.line.limit ≡ l.initial.line.limit;
  within : line_cells l.initial.line.collected ≤ l.initial.line.limit → line_cells l.line.collected ≤ l.line.limit;
}
