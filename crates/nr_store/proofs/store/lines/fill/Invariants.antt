use Rattle.std.proofs.Common.{◌≡◌, map, take}
use Rattle.nr_store.proofs.store.lines.fill.Given as goal

abbrev pub invariant-loop-i : goal.invariant-loop-i
invariant-loop-i g l = take l.i l.block ≡ map g.T.Single.single (take l.i l.more)
