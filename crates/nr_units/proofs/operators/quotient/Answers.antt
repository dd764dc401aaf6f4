use Rattle.std.proofs.Common.{◌∙◌}
use Rattle.nr_units.proofs.Values.{quotient_code}
use Rattle.nr_units.proofs.operators.quotient.Goals as goal

pub returns : goal.returns
returns c =
    c.in_range.ensures
    ∙ quotient_code c.args.x c.args.y c.from.result c.from-2.result c.ranges.x c.ranges.y c.from.ensures c.from-2.ensures c.if-y-eq0.false
