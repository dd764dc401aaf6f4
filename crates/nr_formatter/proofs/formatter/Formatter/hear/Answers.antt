use Rattle.std.proofs.Common.{◌≡◌, true, ap, sym, ◌∙◌}
use Rattle.nr_formatter.specs.Moves.{is_text}
use Rattle.nr_formatter.specs.Passed.{line_answer}
use Rattle.nr_formatter.proofs.Hearing.{ok_line, heard-text, judged-text_heard}
use Rattle.nr_formatter.proofs.HearingFalls.{ok_line as falls_line}
use Rattle.nr_formatter.proofs.formatter.Formatter.hear.Goals as goal

-- what refuses text is the line alone
pub returns-then-is_text-clause-result : goal.returns-then-is_text-clause-result
returns-then-is_text-clause-result c = λ within.
    let text : is_text c.args.event ≡ true = sym c.is_text.ensures ∙ c.if-is_text.true in
    c.of_line.ensures ∙ ap line_answer (c.hear_text.ensures.result within) ∙ judged-text_heard c.args.event c.args.self.now text within

pub returns-then-is_text-clause-ok : goal.returns-then-is_text-clause-ok
returns-then-is_text-clause-ok c =
    let text : is_text c.args.event ≡ true = sym c.is_text.ensures ∙ c.if-is_text.true in
    ok_line c.hear_text.result c.of_line.result c.hear_text.new.self _ _ c.of_line.ensures (heard-text c.args.event c.args.self.now text) c.hear_text.ensures.ok

pub returns-then-is_text-clause-falls : goal.returns-then-is_text-clause-falls
returns-then-is_text-clause-falls c = λ is some.
    let text : is_text c.args.event ≡ true = sym c.is_text.ensures ∙ c.if-is_text.true in
    falls_line c.hear_text.result c.of_line.result _ c.of_line.ensures (c.hear_text.ensures.falls is text)
