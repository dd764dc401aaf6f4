use Rattle.std.proofs.lemmas.Grind.{common_steps}
use Rattle.std.proofs.Common.{ap, refl, arith}
use Rattle.nr_fill.specs.Line.{Lined}
use Rattle.nr_fill.specs.Piece.{line_cells}
use Rattle.nr_fill.proofs.Lines.{is_line_title_cell, line_cells-collected_of, title_of_push, line_cells-le}
use Rattle.nr_fill.proofs.Measures.{afforded_ok}
use Rattle.nr_fill.specs.Piece.{with_title_cell}
use Rattle.nr_fill.proofs.line.Line.put_title.Goals as goal

pub returns-in_default-clause-result : goal.returns-in_default-clause-result
returns-in_default-clause-result c =
    let s = c.self.inside in
    let own = ap (λ (v : Lined). v.limit) c.self.view_is in
    let all = line_cells-le s.barred s.sentence s.margins s.turn c.self.invariant in
    let v : Lined = record { collected = with_title_cell c.args.cell c.args.self.now.collected; limit = c.args.self.now.limit } in
    afforded_ok v (rw (← c.self.view_is, c.in_default.is) (rw c.in_default.is at all))

pub invariant_of-self : goal.invariant_of-self
invariant_of-self c =
    let s = c.self.inside in
    let all = line_cells-collected_of s.barred s.sentence s.margins s.turn c.self.invariant in
    let same = ap (λ (v : Lined). line_cells v.collected) c.self.view_is in
    let own = ap (λ (v : Lined). v.limit) c.self.view_is in
    rw c.push_title.ensures (is_line_title_cell c.args.cell c.self.invariant (rw c.in-Some.is refl) (omega (arith, c.measure.ensures.value, c.measure.ensures.within)))

pub returns-clause-ok : goal.returns-clause-ok
returns-clause-ok c =
    let s = c.self.inside in
    rw (c.push_title.ensures, ← c.self.view_is, title_of_push s.title s.row.title c.args.cell c.self.invariant.title_is) refl

pub returns-then-measure-self-clause-result : goal.returns-then-measure-self-clause-result
returns-then-measure-self-clause-result c = grind (arith, common_steps)

pub push_title-requires : goal.push_title-requires
push_title-requires c = grind (arith, common_steps)

pub returns-clause-result : goal.returns-clause-result
returns-clause-result c = grind (arith, common_steps)
