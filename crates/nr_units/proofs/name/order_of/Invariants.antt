-- The bytes before i are the same.
use Rattle.std.proofs.Common.{◌≡◌, drop}
use Rattle.nr_units.specs.Name.{name_order}
use Rattle.nr_units.proofs.name.order_of.Given as goal

abbrev pub invariant-loop-i : goal.invariant-loop-i
invariant-loop-i l = name_order l.a l.b ≡ name_order (drop l.i l.a) (drop l.i l.b)
