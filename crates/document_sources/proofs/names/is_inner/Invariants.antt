-- The parts before the place are proper, as far as they are whole.
use Rattle.std.proofs.Common.{◌≡◌, ◌≤◌, ◌-◌, [], drop, take}
use Rattle.document_sources.specs.Names.{are_proper}
use Rattle.document_sources.proofs.names.is_inner.Given as goal

abbrev pub invariant-loop-at : goal.invariant-loop-at
invariant-loop-at l = record {
  part : l.start ≤ l.at;
  same : are_proper [] l.path ≡ are_proper (take (l.at - l.start) (drop l.start l.path)) (drop l.at l.path);
}
