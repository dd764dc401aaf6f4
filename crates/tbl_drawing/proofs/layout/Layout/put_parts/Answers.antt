use Rattle.std.proofs.Common.{◌≡◌, ℕ, Bool, ◌++◌, not, sym, ap, ◌∙◌}
use Rattle.tbl_drawing.proofs.Tapes.{draws_same, draws_then}
use Rattle.tbl_drawing.specs.Heights.{all_lines}
use Rattle.tbl_drawing.specs.Lines.{lines_strokes}
use Rattle.tbl_drawing.specs.Tables.{columns_strokes, laid, part_forgotten, ready}
use Rattle.tbl_drawing.specs.declared.layout.Layout.{Layout}
use Rattle.tbl_drawing.proofs.layout.Layout.put_parts.Goals as goal

pub returns-clause-draws : goal.returns-clause-draws
returns-clause-draws g c =
    let l = c.args.self.now in
    let ends = c.args.ends in
    let before = columns_strokes l in
    let made : c.make_ready.new.self ≡ ready l = c.make_ready.ensures.value in
    let on : c.lay-lines.new.self ≡ laid ends (ready l) = c.lay-lines.ensures.value ∙ ap (λ (x : Layout). laid ends x) made in
    let count : c.lay-lines.result ≡ all_lines ends (ready l) = c.lay-lines.ensures.lines ∙ ap (λ (x : Layout). all_lines ends x) made in
    let opens : not c.make_ready.new.self.measured ≡ not (ready l).measured = ap (λ (x : Layout). not x.measured) made in
    draws_same (draws_then c.make_ready.ensures.draws c.put_lines.ensures)
    (ap (λ (x : Layout). before ++ lines_strokes x (not (ready l).measured) (all_lines ends (ready l)) ends) (sym on)
    ∙ ap (λ (b : Bool). before ++ lines_strokes c.lay-lines.new.self b (all_lines ends (ready l)) ends) (sym opens)
    ∙ ap (λ (n : ℕ). before ++ lines_strokes c.lay-lines.new.self (not c.make_ready.new.self.measured) n ends) (sym count))

pub returns-clause-value : goal.returns-clause-value
returns-clause-value g c =
    c.forget_part.ensures.value
    ∙ ap (λ (x : Layout). part_forgotten x) (c.lay-lines.ensures.value ∙ ap (λ (x : Layout). laid c.args.ends x) c.make_ready.ensures.value)

pub returns-clause-room : goal.returns-clause-room
returns-clause-room g c = c.forget_part.ensures.room ∙ c.lay-lines.ensures.room ∙ c.make_ready.ensures.room
