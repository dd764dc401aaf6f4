-- An interrupted flush keeps what is held.
use Rattle.std.specs.Io.KnownBytes.{Keeps}
use Rattle.nr_units.proofs.over_std.flush_all.Given as goal

abbrev pub invariant-loop : goal.invariant-loop
invariant-loop g l = Keeps (g.W.Write.contents l.initial.writer) (g.W.Write.contents l.writer)
