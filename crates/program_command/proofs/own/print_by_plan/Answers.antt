use Rattle.std.proofs.Common.{ℕ, List}
use Rattle.nr_units.specs.Source.{Supply}
use Rattle.document_printing.specs.declared.setup.Report.{Report}
use Rattle.program_command.specs.Printing.{FixedShows, OwnShows, Printed, given_by}
use Rattle.program_command.proofs.Shown.{Printed-fixed, Printed-own, Where-map}
use Rattle.program_command.proofs.Texts.{begins}
use Rattle.program_command.proofs.own.print_by_plan.Goals as goal

pub returns-in-Some-clause-prints : goal.returns-in-Some-clause-prints
returns-in-Some-clause-prints g c = λ first begun own.
    let plan = c.args.plan.now in
    let given = given_by c.args.means c.args.desk.now in
    let supply = g.R.Source.supply c.args.page in
    let a = g.W.Sink.held c.args.output in
    let b = g.W.Sink.held c.print_own.result.0 in
    Where-map plan supply _ (λ (report : Report) (q : Supply). Printed plan first given q report a b)
    c.print_own.result.1 (λ report q known short shows.
    let following = begins supply q first begun known in
    Printed-own plan first given q report a b _ _ _ c.in-Some.is (own (short plan.stages first following.0 following.1))
    c.table.ensures.made c.table.ensures.good shows)
    c.print_own.ensures.prints

pub returns-in-None-clause-prints : goal.returns-in-None-clause-prints
returns-in-None-clause-prints g c = λ first begun own.
    let plan = c.args.plan.now in
    let given = given_by c.args.means c.args.desk.now in
    let supply = g.R.Source.supply c.args.page in
    let a = g.W.Sink.held c.args.output in
    let b = g.W.Sink.held c.print_fixed.result.0 in
    Where-map plan supply (λ (report : Report) (q : Supply). FixedShows plan given q report a b) (λ (report : Report) (q : Supply). Printed plan first given q report a b)
    c.print_fixed.result.1 (λ report q known short shows.
    let following = begins supply q first begun known in
    Printed-fixed plan first given q report a b _ c.in-None.is (own (short plan.stages first following.0 following.1)) shows)
    c.print_fixed.ensures.prints
