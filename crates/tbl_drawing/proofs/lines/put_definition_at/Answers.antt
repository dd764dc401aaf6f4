use Rattle.std.proofs.Common.{◌-◌, ◌+◌, [], take, drop, sym, ◌∙◌}
use Rattle.tbl_drawing.specs.Lines.{definition, ends_at}
use Rattle.tbl_drawing.proofs.Choices.{left, taken}
use Rattle.tbl_drawing.proofs.Chosen.{draws_chosen, none_asked}
use Rattle.tbl_drawing.proofs.lines.put_definition_at.Goals as goal

pub returns-then-not-ends_at-clause-draws : goal.returns-then-not-ends_at-clause-draws
returns-then-not-ends_at-clause-draws g c =
    let text = c.args.text.now in
    none_asked (ends_at text c.args.at) (definition (take (c.args.at - c.args.from) (drop c.args.from text))) (sym c.ends_at.ensures ∙ c.if-not-ends_at.true)

pub returns-then-not-ends_at-clause-next : goal.returns-then-not-ends_at-clause-next
returns-then-not-ends_at-clause-next g c =
    sym (left (ends_at c.args.text.now c.args.at) (c.args.at + 1) c.args.from (sym c.ends_at.ensures ∙ c.if-not-ends_at.true))

pub returns-clause-draws : goal.returns-clause-draws
returns-clause-draws g c = draws_chosen (ends_at c.args.text.now c.args.at) [] c.put_definition.ensures (sym c.ends_at.ensures ∙ c.if-not-ends_at.false)

pub returns-clause-next : goal.returns-clause-next
returns-clause-next g c =
    sym (taken (ends_at c.args.text.now c.args.at) (c.args.at + 1) c.args.from (sym c.ends_at.ensures ∙ c.if-not-ends_at.false))
