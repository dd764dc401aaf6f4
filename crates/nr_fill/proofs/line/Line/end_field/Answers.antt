use Rattle.std.proofs.lemmas.Grind.{common_steps}
use Rattle.std.proofs.Common.{ap, arith}
use Rattle.nr_fill.specs.Line.{Lined}
use Rattle.nr_fill.proofs.Measures.{afforded_ok, line_cells-filled}
use Rattle.nr_fill.specs.Tabs.{with_field_filled}
use Rattle.nr_fill.proofs.line.Line.end_field.Goals as goal

pub overflow_sub-self-inside : goal.overflow_sub-self-inside
overflow_sub-self-inside c = let own = ap (λ (v : Lined). v.limit) c.self.view_is in omega (arith, c.text_measure.ensures.within)

pub fill_field-requires-clause-room : goal.fill_field-requires-clause-room
fill_field-requires-clause-room c =
    let own = ap (λ (v : Lined). v.limit) c.self.view_is in
    omega (arith, c.text_measure.ensures.value, c.text_measure.ensures.within)

pub returns-clause-result : goal.returns-clause-result
returns-clause-result c =
    let more = line_cells-filled c.args.self.now.collected in
    let own = ap (λ (v : Lined). v.limit) c.self.view_is in
    let v : Lined = record { collected = with_field_filled c.args.self.now.collected; limit = c.args.self.now.limit } in
    afforded_ok v (omega (arith, c.text_measure.ensures.value, c.text_measure.ensures.within, c.field_fill-n.ensures))

pub returns-then-n-self-clause-result : goal.returns-then-n-self-clause-result
returns-then-n-self-clause-result c = grind (arith, common_steps)
