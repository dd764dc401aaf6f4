use Rattle.std.proofs.Common.{[], ◌∙◌, rules}
use Rattle.nr_fill.specs.Title.{titled_row}
use Rattle.nr_formatter.proofs.HeldRows.{holds_nothing}
use Rattle.nr_formatter.proofs.diversion_row.divert_titled.Goals as goal

pub returns-clause-result : goal.returns-clause-result
returns-clause-result c =
    let v = c.args.store.now in
    let row = titled_row 0 c.args.length c.args.line.now.collected.title in
    let adds = c.set_title.ensures.out in
    c.end.ensures.result v row (adds.2 v [] (holds_nothing v)) (adds.1 ∙ c.charge-charge.ensures.value)

pub returns-clause-ok : goal.returns-clause-ok
returns-clause-ok c =
    let v = c.args.store.now in
    let row = titled_row 0 c.args.length c.args.line.now.collected.title in
    let adds = c.set_title.ensures.out in
    let h = c.end.ensures.ok v row (adds.2 v [] (holds_nothing v)) (adds.1 ∙ c.charge-charge.ensures.value) in
    search (rules, h)

pub returns-clause-limits : goal.returns-clause-limits
returns-clause-limits c =
    let v = c.args.store.now in
    let row = titled_row 0 c.args.length c.args.line.now.collected.title in
    let adds = c.set_title.ensures.out in
    let h = c.end.ensures.limits ∙ (adds.2 v [] (holds_nothing v)).limits in
    search (rules, h)
