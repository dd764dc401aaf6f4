use Rattle.std.proofs.Common.{◌≡◌, ◌≤◌, ◌-◌}
use Rattle.document_stages.specs.Pulling.{fits_always}
use Rattle.document_stages.specs.Running.{Stands}
use Rattle.document_stages.proofs.running.run.Given as goal

abbrev pub invariant-loop-taken : goal.invariant-loop-taken
invariant-loop-taken g l = record {
  stands : Stands
      (record { says = g.T.Stage.says l.initial.stage; fits = g.T.Stage.fits l.initial.stage; counts = g.T.Stage.counts l.initial.stage })
      (record { says = g.T.Stage.says l.stage; fits = g.T.Stage.fits l.stage; counts = g.T.Stage.counts l.stage })
      (g.T.Stage.wants l.initial.stage) (g.R.Source.supply l.initial.input) (g.R.Source.supply l.input)
      (g.W.Sink.held l.initial.output) (g.W.Sink.held l.output) l.out.items l.taken;
  wants : g.T.Stage.wants l.stage ≡ g.T.Stage.wants l.initial.stage;
  source : g.R.Source.failures l.input ≡ g.R.Source.failures l.initial.input;
  sink : g.W.Sink.failures l.output ≡ g.W.Sink.failures l.initial.output;
  room : l.out.capacity ≡ l.initial.out.capacity;
  taken : l.taken ≤ 1099511627776;
}

abbrev pub decreases-loop-taken : goal.decreases-loop-taken
decreases-loop-taken g l = 1099511627776 - l.taken
