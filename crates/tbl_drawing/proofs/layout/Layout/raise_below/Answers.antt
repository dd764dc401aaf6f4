use Rattle.std.proofs.Common.{◌≡◌, ℕ, true, false, nat_lt, sym, ap, arith, ◌∙◌}
use Rattle.std.proofs.lemmas.Bool.Decides.{nat_tests}
use Rattle.tbl_drawing.proofs.Choices.{left, taken}
use Rattle.tbl_drawing.specs.Heights.{lines_given, missing}
use Rattle.tbl_drawing.proofs.layout.Layout.raise_below.Goals as goal

pub returns-then-missing-eq0-clause-value : goal.returns-then-missing-eq0-clause-value
returns-then-missing-eq0-clause-value c =
    let l = c.args.self.now in
    let f = c.args.cell in
    let is : nat_lt 0 (missing l f) ≡ false = grind (arith, nat_tests, c.missing-missing.ensures) in
    sym (left (nat_lt 0 (missing l f)) (lines_given (missing l f) f.bottom l) l is)

pub returns-clause-value : goal.returns-clause-value
returns-clause-value c =
    let l = c.args.self.now in
    let f = c.args.cell in
    let is : nat_lt 0 (missing l f) ≡ true = grind (arith, nat_tests, c.missing-missing.ensures) in
    c.add_lines.ensures.value ∙ ap (λ (n : ℕ). lines_given n f.bottom l) c.missing-missing.ensures
    ∙ sym (taken (nat_lt 0 (missing l f)) (lines_given (missing l f) f.bottom l) l is)
