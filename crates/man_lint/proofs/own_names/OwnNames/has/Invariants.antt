use Rattle.std.proofs.Common.{◌≡◌, drop}
use Rattle.man_lint.specs.OwnNames.{has}
use Rattle.man_lint.proofs.own_names.OwnNames.has.Given as goal

abbrev pub invariant-loop-own : goal.invariant-loop-own
invariant-loop-own l = has l.name (drop l.own-index l.own-items) ≡ has l.name l.own-items
