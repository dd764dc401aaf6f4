use Rattle.std.proofs.Common.{sym, ap, ◌∙◌}
use Rattle.nr_machine.specs.declared.outcome.Measure.TheVariants.{Moves}
use Rattle.nr_machine.specs.declared.outcome.Outcome.TheVariants.{Limit}
use Rattle.nr_engine.proofs.Travelling.{spent_springs, spent_event, spent_task, spent_over}
use Rattle.nr_engine.proofs.run.outcome_when_spent.Goals as goal

pub returns-then-is_some : goal.returns-then-is_some
returns-then-is_some c =
    let e = c.args.engine.now in
    ap (Limit Moves) c.taken.ensures.value
    ∙ sym (spent_springs e.formatter.springs e.formatter.event e.formatter.task e.place.taken (sym c.is_some.ensures ∙ c.if-is_some.true))

pub returns-in_default : goal.returns-in_default
returns-in_default c =
    let e = c.args.engine.now in
    ap (Limit Moves) c.taken.ensures.value
    ∙ sym (spent_event e.formatter.springs e.formatter.event e.formatter.task e.place.taken c.in_default.not-Nothing)

pub returns-in-Halted : goal.returns-in-Halted
returns-in-Halted c =
    let e = c.args.engine.now in
    sym (spent_over e.formatter.springs e.formatter.event e.formatter.task e.place.taken (sym c.is_some.ensures ∙ c.if-is_some.false) c.in-Nothing.is c.in-Halted.is)

pub returns-in_default-task : goal.returns-in_default-task
returns-in_default-task c =
    let e = c.args.engine.now in
    ap (Limit Moves) c.taken.ensures.value
    ∙ sym (spent_task e.formatter.springs e.formatter.event e.formatter.task e.place.taken c.in_default-task.not-Halted)
