use Rattle.std.proofs.Common.{◌≡◌, ◌-◌}
use Rattle.nr_formatter.specs.Pages.{next_springing}
use Rattle.nr_formatter.proofs.NextSprings.{springing_below}
use Rattle.nr_formatter.proofs.formatter.Formatter.next_springing.Given as goal

abbrev pub invariant-loop-trap : goal.invariant-loop-trap
invariant-loop-trap l = springing_below l.place l.self ≡ next_springing l.self

abbrev pub decreases-loop-trap : goal.decreases-loop-trap
decreases-loop-trap l = l.self.settings.pages.page_length - l.place
