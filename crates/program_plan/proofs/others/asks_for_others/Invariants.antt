-- The lines that begin before the place ask for none.
use Rattle.std.proofs.Common.{◌≡◌, true, drop}
use Rattle.program_plan.specs.Others.{asks_for_one}
use Rattle.program_plan.proofs.others.asks_for_others.Given as goal

abbrev pub invariant-loop-at : goal.invariant-loop-at
invariant-loop-at l = asks_for_one true l.text ≡ asks_for_one l.begins (drop l.at l.text)
