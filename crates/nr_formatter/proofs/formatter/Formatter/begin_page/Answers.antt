use Rattle.std.proofs.Common.{rules}
use Rattle.nr_formatter.specs.Pages.{page_begun}
use Rattle.nr_formatter.proofs.Falling.{falls-is}
use Rattle.nr_formatter.proofs.PageFalls.{falls-opened, falls-begun}
use Rattle.nr_formatter.proofs.formatter.Formatter.begin_page.Goals as goal

pub returns-clause-opened : goal.returns-clause-opened
returns-clause-opened c = λ some closed. let f = c.args.self.now in falls-is 1 0 f _ (page_begun f) (search rules) (falls-opened f some closed)

pub returns-clause-begun : goal.returns-clause-begun
returns-clause-begun c = λ given some none begin. let f = c.args.self.now in falls-is 1 0 f _ (page_begun f) (search rules) (falls-begun given f some none begin)
