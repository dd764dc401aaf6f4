use Rattle.std.proofs.Common.{◌≡◌, ◌++◌, replicate}
use Rattle.nr_units.proofs.number_text.push_times.Given as goal

abbrev pub invariant-loop-i : goal.invariant-loop-i
invariant-loop-i l = l.text.items ≡ l.initial.text.items ++ replicate l._i l.byte
