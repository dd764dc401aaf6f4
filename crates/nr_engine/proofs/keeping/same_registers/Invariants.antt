use Rattle.std.proofs.Common.{◌≡◌, take}
use Rattle.nr_engine.proofs.keeping.same_registers.Given as goal

abbrev pub invariant-loop-place : goal.invariant-loop-place
invariant-loop-place l = take l.place l.one ≡ take l.place l.other
