use Rattle.std.proofs.Common.{◌≡◌, ℕ, List, sym, ap, ◌∙◌, subst, arith}
use Rattle.nr_formatter.specs.Many.Runs.{is_in_line}
use Rattle.nr_formatter.specs.declared.formatter.Formatter.{Formatter}
use Rattle.nr_formatter.proofs.PlainText.{in_line}
use Rattle.fast_machine.specs.Running.{PutsText}
use Rattle.fast_machine.proofs.PointEscapes.{line_point, named_point, point_put, puts_point}
use Rattle.fast_machine.proofs.escapes.put_point.Goals as goal

pub returns-clause-puts : goal.returns-clause-puts
returns-clause-puts c =
    let f = c.args.formatter.now in
    let bs = c.args.bytes.now in
    let line = in_line f (sym c.is_in_line.ensures ∙ c.if-not-is_in_line.false) in
    let begins = c.begins_point.ensures.point c.if-not-begins_point.false in
    let is =
    ap (λ (n : List ℕ). record f { reader = record f.reader { half = record f.reader.half { notes = record f.reader.half.notes { asked = n } } }; line = c.point.new.self }) c.of-formatter.ensures
    ∙ ap (λ l. record f { reader = record f.reader { half = named_point f.reader.half }; line = l }) c.point.ensures
    in
    record {
      puts = λ some. subst (λ (x : Formatter). PutsText bs 4 5 f x) (sym is) (puts_point bs begins f line);
      line = λ some. ap is_in_line is ∙ line_point f line;
      left = λ none. absurd (omega (arith, none));
    }
