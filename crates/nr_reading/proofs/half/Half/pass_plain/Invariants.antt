use Rattle.nr_reading.specs.Many.Passing.{GoesOn}
use Rattle.nr_reading.proofs.half.Half.pass_plain.Given as goal

abbrev pub invariant-loop-place : goal.invariant-loop-place
invariant-loop-place g l = record { goes : GoesOn (g.I.Items.next_items l.items) l.place l.self l.self }
