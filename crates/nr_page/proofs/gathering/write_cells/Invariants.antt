use Rattle.std.proofs.Common.{◌≡◌, ◌-◌, ◌≤◌, length, take}
use Rattle.std.specs.List.{flat_map}
use Rattle.nr_page.specs.PageBytes.{cell_bytes}
use Rattle.nr_page.specs.Gathering.{Gathers}
use Rattle.nr_page.proofs.gathering.write_cells.Given as goal

abbrev pub invariant-loop-at : goal.invariant-loop-at
invariant-loop-at g l = record {
  within : l.at ≤ length l.cells;
  gathers : Gathers (g.W.Sink.held l.initial.output) (g.W.Sink.held l.output) l.initial.pending.items l.pending.items (flat_map (cell_bytes l.faces) (take l.at l.cells));
  failures : g.W.Sink.failures l.output ≡ g.W.Sink.failures l.initial.output;
  room : l.pending.capacity ≡ l.initial.pending.capacity;
}

abbrev pub decreases-loop-at : goal.decreases-loop-at
decreases-loop-at g l = length l.cells - l.at
