use Prim.Native.Char.{code}
use Rattle.std.proofs.Common.{◌≡◌, replicate}
use Rattle.nr_page.specs.Gathering.{Gathers}
use Rattle.nr_page.proofs.gathering.write_newlines.Given as goal

abbrev pub invariant-loop-line : goal.invariant-loop-line
invariant-loop-line g l = record {
  gathers : Gathers (g.W.Sink.held l.initial.output) (g.W.Sink.held l.output) l.initial.pending.items l.pending.items (replicate l._line (code "\n"));
  failures : g.W.Sink.failures l.output ≡ g.W.Sink.failures l.initial.output;
  room : l.pending.capacity ≡ l.initial.pending.capacity;
}
