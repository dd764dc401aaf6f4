use Rattle.std.proofs.Common.{arith}
use Rattle.std.proofs.lemmas.Grind.{common_steps}
use Rattle.nr_fill.proofs.cell_row.lay_line.Goals as goal

pub add_prefix-requires-clause-prefix : goal.add_prefix-requires-clause-prefix
add_prefix-requires-clause-prefix g c = grind (arith, common_steps)

pub add_prefix-requires-clause-room : goal.add_prefix-requires-clause-room
add_prefix-requires-clause-room g c = grind (arith, common_steps)

pub loop-slot-init : goal.loop-slot-init
loop-slot-init g c = grind (arith, common_steps)

pub add_after_copies-requires-clause-prefix : goal.add_after_copies-requires-clause-prefix
add_after_copies-requires-clause-prefix g c = grind (arith, common_steps)

pub add_after_copies-requires-clause-room : goal.add_after_copies-requires-clause-room
add_after_copies-requires-clause-room g c = grind (arith, common_steps)

pub loop-slot-preserved : goal.loop-slot-preserved
loop-slot-preserved g c = grind (arith, common_steps)

pub returns-clause-items : goal.returns-clause-items
returns-clause-items g c = grind (arith, common_steps)
