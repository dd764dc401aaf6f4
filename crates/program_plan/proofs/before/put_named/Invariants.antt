-- What was there comes first.
use Rattle.program_plan.specs.Before.{BeginsWith}
use Rattle.program_plan.proofs.before.put_named.Given as goal

abbrev pub invariant-loop-at : goal.invariant-loop-at
invariant-loop-at l = BeginsWith l.initial.text.items l.text.items
