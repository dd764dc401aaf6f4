use Rattle.std.proofs.Common.{◌≡◌, ◌+◌, ◌≤◌, drop}
use Rattle.nr_settings.specs.Arguments.{number_len}
use Rattle.nr_settings.proofs.arguments.number_len.Given as goal

abbrev pub invariant-loop-at : goal.invariant-loop-at
invariant-loop-at l = (number_len 0 l.text ≡ l.at + number_len l.depth (drop l.at l.text)) × (l.depth ≤ l.at)
