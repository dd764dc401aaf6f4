use Rattle.std.proofs.Common.{[], rules, ◌∙◌}
use Rattle.nr_formatter.specs.Lines.{row_of}
use Rattle.nr_formatter.proofs.HeldRows.{holds_nothing}
use Rattle.nr_formatter.proofs.diversion_row.divert_going.Goals as goal

pub returns-clause-result : goal.returns-clause-result
returns-clause-result c =
    let v = c.args.store.now in
    let row = row_of c.args.going 0 c.args.line.now.collected in
    let adds = c.set_going.ensures.out in
    c.end.ensures.result v row (adds.2 v [] (holds_nothing v)) (adds.1 ∙ c.charge-charge.ensures.value)

pub returns-clause-ok : goal.returns-clause-ok
returns-clause-ok c =
    let v = c.args.store.now in
    let row = row_of c.args.going 0 c.args.line.now.collected in
    let adds = c.set_going.ensures.out in
    let h = c.end.ensures.ok v row (adds.2 v [] (holds_nothing v)) (adds.1 ∙ c.charge-charge.ensures.value) in
    search (rules, h)

pub returns-clause-limits : goal.returns-clause-limits
returns-clause-limits c =
    let v = c.args.store.now in
    let row = row_of c.args.going 0 c.args.line.now.collected in
    let adds = c.set_going.ensures.out in
    let h = c.end.ensures.limits ∙ (adds.2 v [] (holds_nothing v)).limits in
    search (rules, h)
