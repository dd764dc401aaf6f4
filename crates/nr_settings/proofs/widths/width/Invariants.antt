use Rattle.std.proofs.Common.{◌≡◌, ◌+◌, ◌*◌, ◌≤◌, drop}
use Rattle.nr_settings.specs.Widths.{widths}
use Rattle.nr_settings.proofs.widths.width.Given as goal

abbrev pub invariant-loop-at : goal.invariant-loop-at
invariant-loop-at l =
    (widths l.long l.v 0 l.text ≡ l.width + widths l.long l.v l.more (drop l.at l.text)) × (l.width ≤ 32760 * l.at)
