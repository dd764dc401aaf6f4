-- The writer took the bytes before `done`.
use Rattle.std.proofs.Common.{◌≡◌, length, ◌-◌, ◌≤◌, take}
use Rattle.std.specs.Io.KnownBytes.{Appends}
use Rattle.nr_units.specs.Sink.{passed_on_with}
use Rattle.nr_units.proofs.over_std.ToWriterSink.put.Given as goal

abbrev pub invariant-loop-done : goal.invariant-loop-done
invariant-loop-done g l = record {
  within : l.done ≤ length l.bytes;
  appends : Appends (g.W.Write.contents l.initial.self.writer) (g.W.Write.contents l.self.writer) (take l.done l.bytes);
  passed_on : l.self.passed_on ≡ passed_on_with l.initial.self.passed_on (take l.done l.bytes);
  puts : l.self.failed_puts ≡ l.initial.self.failed_puts;
  flushes : l.self.failed_flushes ≡ l.initial.self.failed_flushes;
}

abbrev pub decreases-loop-done : goal.decreases-loop-done
decreases-loop-done g l = length l.bytes - l.done
