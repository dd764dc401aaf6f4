use Rattle.std.proofs.Common.{◌≡◌, ◌-◌, [], true, false}
use Rattle.document_stages.specs.Pulling.{Stays, pulled}
use Rattle.tbl_stage.proofs.turned.fill.Given as goal

abbrev pub invariant-loop-count : goal.invariant-loop-count
invariant-loop-count g l = record {
  stays : Stays (pulled (g.R.Source.supply l.fn.input) true (g.T.Turning.says l.fn.stage) (g.T.Turning.fits l.fn.stage) [] l.fn.taken false)
      (pulled (g.R.Source.supply l.input) true (g.T.Turning.says l.stage) (g.T.Turning.fits l.stage) [] l.count false);
  empty : l.out.items ≡ [];
  wants : g.T.Turning.wants l.stage ≡ g.T.Turning.wants l.fn.stage;
  room : l.out.capacity ≡ l.fn.out.capacity;
}

abbrev pub decreases-loop-count : goal.decreases-loop-count
decreases-loop-count g l = 1099511627776 - l.count
