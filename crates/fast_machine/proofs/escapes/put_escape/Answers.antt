use Rattle.std.proofs.Common.{◌≡◌, ◌+◌, inl, inr, sym, ap, ◌∙◌, subst, arith}
use Rattle.nr_reading.specs.Many.InText.{is_in_text}
use Rattle.fast_input.specs.Fonts.{BeginsFont}
use Rattle.nr_formatter.specs.Many.Runs.{is_in_line}
use Rattle.nr_formatter.specs.declared.formatter.Formatter.{Formatter}
use Rattle.fast_machine.specs.Escapes.{PutsEscape}
use Rattle.fast_machine.proofs.escapes.put_escape.Goals as goal

pub returns-clause-puts : goal.returns-clause-puts
returns-clause-puts c =
    let no_minus : c.put_minus-minus.result ≡ 0 = omega (arith, c.if-minus-gt0.false) in
    let no_point : c.put_point-point.result ≡ 0 = omega (arith, c.if-point-gt0.false) in
    let same = c.put_point-point.ensures.puts.left no_point ∙ c.put_minus-minus.ensures.puts.left no_minus in
    subst (λ (x : Formatter). PutsEscape c.args.bytes.now c.put_font.result (c.put_font.result + 1) x c.put_font.new.formatter) same c.put_font.ensures.puts

pub returns-clause-font : goal.returns-clause-font
returns-clause-font c = λ none line begins.
    let no_minus : c.put_minus-minus.result ≡ 0 = omega (arith, c.if-minus-gt0.false) in
    let no_point : c.put_point-point.result ≡ 0 = omega (arith, c.if-point-gt0.false) in
    let same = c.put_point-point.ensures.puts.left no_point ∙ c.put_minus-minus.ensures.puts.left no_minus in
    c.put_font.ensures.longest none (ap is_in_line same ∙ line) (subst (λ (x : Formatter). BeginsFont (is_in_text x.reader.half) c.args.bytes.now) (sym same) begins)

pub returns-clause-longest : goal.returns-clause-longest
returns-clause-longest c = λ none line begins.
    let no_minus : c.put_minus-minus.result ≡ 0 = omega (arith, c.if-minus-gt0.false) in
    let no_point : c.put_point-point.result ≡ 0 = omega (arith, c.if-point-gt0.false) in
    elim begins [
      | inl point ↦ c.put_point-point.ensures.longest no_point (ap is_in_line (c.put_minus-minus.ensures.puts.left no_minus) ∙ line) point
      | inr minus ↦ c.put_minus-minus.ensures.longest no_minus line minus.0 minus.1
    ]
