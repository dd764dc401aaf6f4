-- Files that are at their end were passed by, and what is to come is as it was.
use Rattle.std.proofs.Common.{◌≡◌, ◌-◌, length, map}
use Rattle.nr_command_options.specs.Chained.{chain_supply, failures_in}
use Rattle.nr_command_options.proofs.Chaining.{Stays}
use Rattle.nr_command_options.proofs.chained.ChainSource.next.Given as goal

abbrev pub invariant-loop-self : goal.invariant-loop-self
invariant-loop-self g l = record {
  stays : Stays (chain_supply l.initial.self.at l.initial.self.line_open (map g.F.Source.supply l.initial.self.files.now)) (chain_supply l.self.at l.self.line_open (map g.F.Source.supply l.self.files.now));
  failures : failures_in g.F.Source.failures l.self.files.now ≡ failures_in g.F.Source.failures l.initial.self.files.now;
}

abbrev pub decreases-loop-self : goal.decreases-loop-self
decreases-loop-self g l = length l.self.files.now - l.self.at
