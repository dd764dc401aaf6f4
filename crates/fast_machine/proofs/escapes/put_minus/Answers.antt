use Rattle.std.proofs.Common.{◌≡◌, sym, ap, ◌∙◌, subst, arith}
use Rattle.std.specs.Prelude.{OnOk}
use Rattle.nr_fill.specs.Line.{afforded}
use Rattle.nr_fill.specs.Piece.{add_cell}
use Rattle.nr_fill.specs.declared.piece.CutAfter.TheVariants.{Letter}
use Rattle.nr_formatter.specs.Access.{collected, margins}
use Rattle.nr_formatter.specs.Many.Runs.{is_in_line}
use Rattle.nr_formatter.specs.declared.formatter.Formatter.{Formatter}
use Rattle.nr_formatter.proofs.PlainText.{in_line}
use Rattle.fast_machine.specs.Running.{PutsText}
use Rattle.fast_machine.proofs.MinusEscapes.{line_minus, minus_afforded, minus_put, puts_minus}
use Rattle.fast_machine.proofs.escapes.put_minus.Goals as goal

pub returns-clause-puts : goal.returns-clause-puts
returns-clause-puts c =
    let f = c.args.formatter.now in
    let bs = c.args.bytes.now in
    let line = in_line f (sym c.is_in_line.ensures ∙ c.if-not-is_in_line.false) in
    let begins = c.begins_minus.ensures.minus c.if-not-begins_minus.false in
    let result =
    c.put.ensures.result
    ∙ ap (λ m. afforded (record f.line { collected = add_cell m Letter c.cell-cell.result (collected f) })) c.margins-margins.ensures
    ∙ ap (λ x. afforded (record f.line { collected = add_cell (margins f) Letter x (collected f) })) c.cell-cell.ensures
    in
    let ok =
    subst (λ x. OnOk c.put.result (c.put.new.self ≡ record f.line { collected = add_cell (margins f) Letter x (collected f) })) c.cell-cell.ensures
    (subst (λ m. OnOk c.put.result (c.put.new.self ≡ record f.line { collected = add_cell m Letter c.cell-cell.result (collected f) })) c.margins-margins.ensures c.put.ensures.ok)
    in
    let put = minus_afforded f c.put.new.self c.put.result result ok (sym c.if-is_err.ensures.value) in
    let is = ap (λ l. record f { line = l }) put.1 in
    record {
      puts = λ some. subst (λ (x : Formatter). PutsText bs 2 3 f x) (sym is) (puts_minus bs begins f line put.0);
      line = λ some. ap is_in_line is ∙ line_minus f line;
      left = λ none. absurd (omega (arith, none));
    }
