use Rattle.std.proofs.Common.{◌≡◌, ℕ, ◌+◌, ◌-◌, ◌<◌, nat_lt, false, length, sym, ap, arith, ◌∙◌}
use Rattle.std.proofs.lemmas.Bool.Decides.{nat_tests}
use Rattle.tbl_drawing.specs.declared.layout.Step.{Step}
use Rattle.tbl_drawing.specs.Held.{step}
use Rattle.tbl_drawing.specs.Steps.{line_among, line_beside}
use Rattle.tbl_drawing.proofs.Choices.{left}
use Rattle.tbl_drawing.proofs.Nexts.{line_next}
use Rattle.tbl_drawing.proofs.layout.Layout.line_up_to.Goals as goal

pub loop-place-preserved : goal.loop-place-preserved
loop-place-preserved c =
    let t = c.args.self.now in
    let n = c.loop-place.place in
    let f = c.args.number in
    let first = c.args.cell.first in
    let wanted = c.args.wanted in
    let line = c.loop-place.line in
    let end = length t.steps.items in
    let inside : n < end = omega (arith, c.loop-place-test.true, c.len-place-end.ensures.value) in
    let here : nat_lt wanted c.step-step.result.line ≡ false = grind (arith, nat_tests, c.if-step-wanted.false) in
    let low : nat_lt wanted (step t n).line ≡ false = ap (λ (s : Step). nat_lt wanted s.line) (sym c.step-step.ensures) ∙ here in
    ap (λ (l : ℕ). line_among (end - (n + 1)) t (n + 1) f first wanted l)
    (c.line_beside-line.ensures ∙ ap (λ (s : Step). line_beside t s f first wanted line) c.step-step.ensures)
    ∙ sym (left (nat_lt wanted (step t n).line) line (line_among (end - (n + 1)) t (n + 1) f first wanted (line_beside t (step t n) f first wanted line)) low)
    ∙ sym (line_next t n end f first wanted line inside)
    ∙ c.loop-place.invariant
