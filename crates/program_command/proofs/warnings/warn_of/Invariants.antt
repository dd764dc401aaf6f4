-- The texts so far give what they would, and what is wrong with them was reported.
use Rattle.std.proofs.Common.{◌≡◌, ◌++◌, drop, length, map, false}
use Rattle.std.specs.Vec.Iter.{into_iter_items, into_iter_len}
use Rattle.document_stages.specs.Joined.{joined}
use Rattle.program_options.specs.Job.{asked_of}
use Rattle.program_command.specs.Warnings.{AreAhead, TellsTexts, heard}
use Rattle.program_command.proofs.warnings.warn_of.Given as goal

abbrev pub invariant-loop-text : goal.invariant-loop-text
invariant-loop-text g l = record {
  parted : l.yielded ++ into_iter_items l.text-iterator ≡ into_iter_items l.initial.text-iterator;
  count : into_iter_len l.text-iterator ≡ length (into_iter_items l.text-iterator);
  ahead : AreAhead (map g.S.Source.supply l.yielded) (map (λ a. joined (drop a.taken a.first.items) (g.S.Source.supply a.rest)) l.all.items);
  reported : TellsTexts (asked_of l.job) l.fn.coding 0 (map g.S.Source.supply l.yielded)
      (heard (g.E.Sink.held l.initial.errors) (g.E.Sink.failures l.initial.errors)) (heard (g.E.Sink.held l.errors) (g.E.Sink.failures l.errors));
  silent : (asked_of l.job).plain.warns ≡ false → l.errors ≡ l.initial.errors;
}
