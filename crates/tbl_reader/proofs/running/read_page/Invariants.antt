use Rattle.std.proofs.Common.{◌≡◌, ◌<◌, ◌≤◌, ◌-◌, false}
use Rattle.tbl_reader.specs.Running.{Stands}
use Rattle.tbl_reader.proofs.running.read_page.Given as goal

abbrev pub invariant-loop-taken : goal.invariant-loop-taken
invariant-loop-taken g l = record {
  stands : Stands g.S.Setter.shows g.S.Setter.hears l.fn.reader.limits (g.R.Source.supply l.fn.input) (g.R.Source.supply l.input) l.reader l.fn.setter l.setter l.taken;
  taken : l.taken ≤ 1099511627776;
  reads : g.R.Source.failures l.input ≡ g.R.Source.failures l.fn.input;
  works : 0 < l.taken → g.S.Setter.failed l.setter ≡ false;
}

abbrev pub decreases-loop-taken : goal.decreases-loop-taken
decreases-loop-taken g l = 1099511627776 - l.taken
