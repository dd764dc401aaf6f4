use Rattle.std.proofs.Common.{◌≡◌, rules}
use Rattle.nr_formatter.specs.Pages.{line_placed}
use Rattle.nr_formatter.proofs.Falling.{falls-is}
use Rattle.nr_formatter.proofs.PageFalls.{falls-line_placed}
use Rattle.nr_formatter.proofs.formatter.Formatter.line_placed.Goals as goal

pub returns-clause-falls : goal.returns-clause-falls
returns-clause-falls c =
    let f = c.args.self.now in
    let same : c.move_to.new.self ≡ line_placed c.args.height f = search rules in
    falls-is 0 4 f c.move_to.new.self (line_placed c.args.height f) same (falls-line_placed c.args.height f)
