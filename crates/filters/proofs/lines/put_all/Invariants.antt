-- The first parts went out whole.
use Rattle.std.proofs.Common.{◌≡◌, take}
use Rattle.std.specs.Io.KnownBytes.{Appends}
use Rattle.filters.specs.Lines.{joined}
use Rattle.filters.proofs.lines.put_all.Given as goal

abbrev pub invariant-loop-part : goal.invariant-loop-part
invariant-loop-part g l = record {
  put : Appends (g.W.Sink.held l.fn.output) (g.W.Sink.held l.output) (joined (take l.part-index l.parts));
  failures : g.W.Sink.failures l.output ≡ g.W.Sink.failures l.fn.output;
}
