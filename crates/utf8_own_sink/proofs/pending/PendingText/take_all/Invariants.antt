-- What comes of those before and those to come is the same, and no put failed.
use Rattle.std.proofs.Common.{◌≡◌, ◌≤◌, ◌-◌, ◌++◌, drop, length}
use Rattle.document_stages.specs.Running.{Flushes}
use Rattle.utf8_own_sink.specs.Reading.{fed}
use Rattle.utf8_own_sink.proofs.pending.PendingText.take_all.Given as goal

abbrev pub invariant-loop-at : goal.invariant-loop-at
invariant-loop-at g l = record {
  within : l.at ≤ length l.bytes;
  reader : (fed l.table l.self.reader (drop l.at l.bytes)).reader ≡ (fed l.table l.initial.self.reader l.bytes).reader;
  out : Flushes (g.W.Sink.held l.initial.output) (g.W.Sink.held l.output) (l.initial.self.out.items ++ (fed l.table l.initial.self.reader l.bytes).bytes) (l.self.out.items ++ (fed l.table l.self.reader (drop l.at l.bytes)).bytes);
  failures : g.W.Sink.failures l.output ≡ g.W.Sink.failures l.initial.output;
}

abbrev pub decreases-loop-at : goal.decreases-loop-at
decreases-loop-at g l = length l.bytes - l.at
