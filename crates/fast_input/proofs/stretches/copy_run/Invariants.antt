use Rattle.std.proofs.Common.{take}
use Rattle.fast_input.specs.Stretches.{AreBytes}
use Rattle.fast_input.proofs.stretches.copy_run.Given as goal

abbrev pub invariant-loop-n : goal.invariant-loop-n
invariant-loop-n g l = record { copied : AreBytes (take l.n l.chunk) (g.I.Items.next_items l.stretch) }
