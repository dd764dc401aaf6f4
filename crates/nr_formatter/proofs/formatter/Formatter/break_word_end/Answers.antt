use Rattle.std.proofs.Common.{rules}
use Rattle.nr_formatter.specs.Lines.{break_word_end}
use Rattle.nr_formatter.proofs.WorkFalls.{falls-on_ok}
use Rattle.nr_formatter.proofs.LineFalls.{falls-break_word_end}
use Rattle.nr_formatter.proofs.formatter.Formatter.break_word_end.Goals as goal

pub returns-then-has_field-clause-falls : goal.returns-then-has_field-clause-falls
returns-then-has_field-clause-falls c = λ some. falls-on_ok 1 0 c.args.self.now _ (break_word_end c.args.self.now) _ (search rules) (falls-break_word_end c.args.self.now some)

pub returns-clause-falls : goal.returns-clause-falls
returns-clause-falls c = λ some. falls-on_ok 1 0 c.args.self.now _ (break_word_end c.args.self.now) _ (search rules) (falls-break_word_end c.args.self.now some)
