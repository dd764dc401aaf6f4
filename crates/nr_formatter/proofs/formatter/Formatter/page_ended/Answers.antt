use Rattle.std.proofs.Common.{rules}
use Rattle.nr_formatter.specs.Pages.{page_ended}
use Rattle.nr_formatter.proofs.Falling.{falls-is}
use Rattle.nr_formatter.proofs.PageFalls.{falls-full_ended, falls-ejected}
use Rattle.nr_formatter.proofs.formatter.Formatter.page_ended.Goals as goal

pub returns-clause-full : goal.returns-clause-full
returns-clause-full c = λ full. let f = c.args.self.now in falls-is 1 0 f _ (page_ended f) (search rules) (falls-full_ended f full)

pub returns-clause-ejected : goal.returns-clause-ejected
returns-clause-ejected c = λ e none eject. let f = c.args.self.now in falls-is 1 0 f _ (page_ended f) (search rules) (falls-ejected e f none eject)
