-- The bytes before the place decided nothing.
use Rattle.std.proofs.Common.{◌≡◌, true, drop}
use Rattle.program_plan.specs.Kinds.{asks}
use Rattle.program_plan.proofs.kinds.is_manual.Given as goal

abbrev pub invariant-loop-at : goal.invariant-loop-at
invariant-loop-at l = asks true l.text ≡ asks l.begins (drop l.at l.text)
