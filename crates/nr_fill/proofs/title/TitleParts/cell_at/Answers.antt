use Rattle.std.proofs.Common.{arith}
use Rattle.std.proofs.lemmas.Grind.{common_steps}
use Rattle.nr_fill.proofs.title.TitleParts.cell_at.Goals as goal

pub returns-then-is_within : goal.returns-then-is_within
returns-then-is_within c = grind (arith, common_steps)

pub returns-then-is_within-2 : goal.returns-then-is_within-2
returns-then-is_within-2 c = grind (arith, common_steps)

pub returns-then-column-self : goal.returns-then-column-self
returns-then-column-self c = grind (arith, common_steps)

pub returns : goal.returns
returns c = grind (arith, common_steps)
