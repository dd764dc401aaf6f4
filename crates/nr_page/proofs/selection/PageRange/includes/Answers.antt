use Rattle.std.proofs.Common.{arith, rules}
use Rattle.std.proofs.lemmas.Grind.{common_steps}
use Rattle.nr_page.proofs.selection.PageRange.includes.Goals as goal

pub returns-then-from-page : goal.returns-then-from-page
returns-then-from-page c = search rules

pub returns-else-from-page : goal.returns-else-from-page
returns-else-from-page c = grind (arith, common_steps)

pub returns-in-One : goal.returns-in-One
returns-in-One c = grind (arith, common_steps)

pub returns-in-UpTo : goal.returns-in-UpTo
returns-in-UpTo c = grind (arith, common_steps)

pub returns-in-From : goal.returns-in-From
returns-in-From c = grind (arith, common_steps)
