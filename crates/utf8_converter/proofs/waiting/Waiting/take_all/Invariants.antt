-- Those before were taken, and no put failed.
use Rattle.std.proofs.Common.{◌≡◌, ◌-◌, ◌≤◌, length, take}
use Rattle.utf8_converter.specs.Showing.{Reads}
use Rattle.utf8_converter.proofs.waiting.Waiting.take_all.Given as goal

abbrev pub invariant-loop-at : goal.invariant-loop-at
invariant-loop-at g l = record {
  takes : Reads (g.W.Sink.held l.fn.output) (g.W.Sink.held l.output) l.fn.self.turner.reader l.self.turner.reader l.fn.self.out.items l.self.out.items l.fn.self.turner.strays l.self.turner.strays (take l.at l.bytes);
  within : l.at ≤ length l.bytes;
  failures : g.W.Sink.failures l.output ≡ g.W.Sink.failures l.fn.output;
}

abbrev pub decreases-loop-at : goal.decreases-loop-at
decreases-loop-at g l = length l.bytes - l.at
