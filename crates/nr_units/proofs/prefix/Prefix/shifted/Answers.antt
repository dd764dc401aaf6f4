use Rattle.std.proofs.Common.{true, false, rules, ◌∙◌, FitsSigned}
use Rattle.std.specs.Int.{w64}
use Rattle.nr_units.proofs.Values.{shifted_code}
use Rattle.nr_units.proofs.prefix.Prefix.shifted.Goals as goal

pub returns-then-self : goal.returns-then-self
returns-then-self c =
    let shift : FitsSigned w64 c.args.self.shift = search rules in
    let sum : FitsSigned w64 c.saturating_sub.result = search rules in
    c.in_range.ensures ∙ shifted_code true c.args.self c.args.x c.from-x.result c.saturating_sub.result c.if-self.true shift c.ranges.x sum c.from-x.ensures c.saturating_sub.ensures

pub returns-else-self : goal.returns-else-self
returns-else-self c =
    let shift : FitsSigned w64 c.args.self.shift = search rules in
    let sum : FitsSigned w64 c.saturating_add.result = search rules in
    c.in_range-else-self.ensures ∙ shifted_code false c.args.self c.args.x c.from-x.result c.saturating_add.result c.if-self.false shift c.ranges.x sum c.from-x.ensures c.saturating_add.ensures
