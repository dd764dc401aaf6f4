use Rattle.std.proofs.Common.{◌≡◌, ℕ, ◌<◌, ◌≤◌, length}
use Rattle.nr_page.specs.Gathering.{Gathers}
use Rattle.nr_page.specs.Overlay.{rows_bytes}
use Rattle.nr_page.specs.Rows.{row_at, rows_of}
use Rattle.nr_page.proofs.writing.write_rows.Given as goal

abbrev pub invariant-loop-place : goal.invariant-loop-place
invariant-loop-place g l = record {
  above : (k : ℕ) → k < l.place → k < length l.rows.items → (row_at l.rows.items k).number < l.done;
  below : (k : ℕ) → l.place ≤ k → k < length l.rows.items → l.done ≤ (row_at l.rows.items k).number;
  within : l.done ≤ l.count;
  gathers : Gathers (g.W.Sink.held l.initial.output) (g.W.Sink.held l.output) l.initial.pending.items l.pending.items (rows_bytes l.faces (rows_of l.texts l.rows.items) 0 l.done);
  failures : g.W.Sink.failures l.output ≡ g.W.Sink.failures l.initial.output;
  room : l.pending.capacity ≡ l.initial.pending.capacity;
}
