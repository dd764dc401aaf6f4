-- The texts so far went out whole.
use Rattle.std.proofs.Common.{◌≡◌, ◌++◌, length, map}
use Rattle.std.specs.Vec.Iter.{into_iter_items, into_iter_len}
use Rattle.filters.specs.Disk.{opened_of}
use Rattle.filters.specs.Turning.{AllWentOut}
use Rattle.filters.proofs.turning.turn_each.Given as goal

abbrev pub invariant-loop-text : goal.invariant-loop-text
invariant-loop-text g l = record {
  parted : l.yielded ++ into_iter_items l.text-iterator ≡ into_iter_items l.initial.text-iterator;
  count : into_iter_len l.text-iterator ≡ length (into_iter_items l.text-iterator);
  went_out : AllWentOut (g.M.Turns.filter l.fn.turner) (map (opened_of g.F.Read.remaining g.I.Read.remaining) l.yielded) (g.W.Sink.held l.fn.output) (g.W.Sink.held l.output) l.complained;
  failures : g.W.Sink.failures l.output ≡ g.W.Sink.failures l.fn.output;
  same : g.M.Turns.filter l.turner ≡ g.M.Turns.filter l.fn.turner;
}
