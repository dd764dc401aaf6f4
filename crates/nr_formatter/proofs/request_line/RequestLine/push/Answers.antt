use Rattle.std.proofs.Common.{◌≡◌, length, take, ap, arith}
use Rattle.nr_formatter.specs.RequestLine.{length-take_filled}
use Rattle.nr_formatter.proofs.Filled.{IsFilled-set}
use Rattle.nr_formatter.proofs.request_line.RequestLine.push.Goals as goal

pub invariant_of-self : goal.invariant_of-self
invariant_of-self c =
    let s = c.self.inside in
    let long : length (take s.len s.bytes) ≡ length c.args.self.now = ap length c.self.view_is in
    let few = length-take_filled s.bytes s.len c.self.invariant in
    let below = c.requires in
    IsFilled-set s.bytes s.len c.from.result c.args.byte c.from.ensures c.self.invariant (omega arith)
