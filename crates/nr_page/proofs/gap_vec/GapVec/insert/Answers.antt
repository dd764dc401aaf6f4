use Rattle.std.proofs.Common.{arith}
use Rattle.std.proofs.lemmas.Grind.{common_steps}
use Rattle.nr_page.proofs.gap_vec.GapVec.insert.Goals as goal

pub returns-clause-items : goal.returns-clause-items
returns-clause-items g c = grind (arith, common_steps)

pub move_gap-requires-clause-there : goal.move_gap-requires-clause-there
move_gap-requires-clause-there g c = grind (arith, common_steps)

pub make_gap-gap-requires-clause-here : goal.make_gap-gap-requires-clause-here
make_gap-gap-requires-clause-here g c = grind (arith, common_steps)

pub make_gap-gap-requires-clause-held : goal.make_gap-gap-requires-clause-held
make_gap-gap-requires-clause-held g c = grind (arith, common_steps)

pub make_gap-gap-requires-clause-within : goal.make_gap-gap-requires-clause-within
make_gap-gap-requires-clause-within g c = grind (arith, common_steps)
