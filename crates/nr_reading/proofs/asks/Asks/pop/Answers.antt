use Rattle.std.proofs.Common.{◌-◌, ◌<◌, length, take, drop, ap, ◌∙◌, arith}
use Rattle.std.proofs.lemmas.List.{length-reverse, length-take}
use Rattle.nr_reading.proofs.Stacked.{one_less}
use Rattle.nr_reading.proofs.asks.Asks.pop.Goals as goal

pub returns : goal.returns
returns c =
    let xs = c.self.inside.asks in
    let is = ap length c.self.view_is in
    let some : 0 < c.self.inside.len = omega (arith, is, c.requires, length-reverse (take c.self.inside.len xs), length-take c.self.inside.len xs) in
    let within = c.self.invariant in
    one_less xs (c.self.inside.len - 1) c.self.inside.len (omega (arith, within.0, within.1)) (omega arith) ∙ ap (drop 1) c.self.view_is
