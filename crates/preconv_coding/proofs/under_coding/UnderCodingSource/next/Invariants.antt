-- What is to come is as it was, and what may come before some text does is less.
use Rattle.std.proofs.Common.{◌≡◌}
use Rattle.preconv_coding.specs.UnderCoding.{supply_from}
use Rattle.preconv_coding.proofs.Giving.{Stays, patience}
use Rattle.preconv_coding.proofs.under_coding.UnderCodingSource.next.Given as goal

abbrev pub invariant-loop-self : goal.invariant-loop-self
invariant-loop-self g l = record {
  stays : Stays (supply_from l.initial.self.part l.initial.self.ready (g.S.Source.supply l.initial.self.source)) (supply_from l.self.part l.self.ready (g.S.Source.supply l.self.source));
  failures : g.S.Source.failures l.self.source ≡ g.S.Source.failures l.initial.self.source;
}

abbrev pub decreases-loop-self : goal.decreases-loop-self
decreases-loop-self g l = patience l.self.part l.self.ready
