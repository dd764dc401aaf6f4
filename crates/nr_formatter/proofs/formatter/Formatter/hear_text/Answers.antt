use Rattle.nr_formatter.proofs.WorkFalls.{falls-on_ok}
use Rattle.nr_formatter.proofs.TextFalls.{falls-text, falls-title}
use Rattle.nr_formatter.proofs.formatter.Formatter.hear_text.Goals as goal

pub returns-then-reads_title-clause-falls : goal.returns-then-reads_title-clause-falls
returns-then-reads_title-clause-falls c = λ heard is. falls-on_ok 1 0 c.args.self.now _ _ _ c.title.ensures.ok (falls-title c.args.event c.args.self.now heard is)

pub returns-clause-falls : goal.returns-clause-falls
returns-clause-falls c = λ heard is. falls-on_ok 1 0 c.args.self.now _ _ _ c.text.ensures.ok (falls-text c.args.event c.args.self.now heard is)
