use Rattle.std.proofs.Common.{ap}
use Rattle.tbl_drawing.specs.declared.layout.StepKind.{StepKind}
use Rattle.tbl_drawing.specs.Lines.{drawn_on}
use Rattle.tbl_drawing.proofs.Tapes.{draws_same}
use Rattle.tbl_drawing.proofs.layout.Layout.put_step.Goals as goal

pub returns-in-Bars : goal.returns-in-Bars
returns-in-Bars g c = draws_same c.put_bars.ensures (ap (λ (k : StepKind). drawn_on c.args.self.now c.args.step.line k) c.in-Bars.is)

pub returns-in-Rule : goal.returns-in-Rule
returns-in-Rule g c = draws_same c.put_rule_line.ensures (ap (λ (k : StepKind). drawn_on c.args.self.now c.args.step.line k) c.in-Rule.is)

pub returns-in-Row : goal.returns-in-Row
returns-in-Row g c = draws_same c.put_row.ensures (ap (λ (k : StepKind). drawn_on c.args.self.now c.args.step.line k) c.in-Row.is)

pub returns-in-Before : goal.returns-in-Before
returns-in-Before g c = draws_same c.put_before.ensures (ap (λ (k : StepKind). drawn_on c.args.self.now c.args.step.line k) c.in-Before.is)

pub returns-in-Edge : goal.returns-in-Edge
returns-in-Edge g c = draws_same c.put_edge_line.ensures (ap (λ (k : StepKind). drawn_on c.args.self.now c.args.step.line k) c.in-Edge.is)
