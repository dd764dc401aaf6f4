-- The first lines went out whole.
use Rattle.std.proofs.Common.{◌≡◌, take}
use Rattle.std.specs.Io.KnownBytes.{Appends}
use Rattle.std.specs.List.{flat_map}
use Rattle.filters_complaints.specs.Lines.{complaint_line}
use Rattle.filters_complaints.proofs.lines.put_complaints.Given as goal

abbrev pub invariant-loop-complaint : goal.invariant-loop-complaint
invariant-loop-complaint g l = record {
  put : Appends (g.E.Sink.held l.fn.errors) (g.E.Sink.held l.errors)
      (flat_map (complaint_line g.C.Complains.at g.C.Complains.says l.program l.name) (take l.complaint-index l.complaints));
  failures : g.E.Sink.failures l.errors ≡ g.E.Sink.failures l.fn.errors;
}
