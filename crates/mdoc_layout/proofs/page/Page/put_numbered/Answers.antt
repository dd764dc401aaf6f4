use Rattle.std.proofs.Common.{arith}
use Rattle.std.proofs.lemmas.Grind.{common_steps}
use Rattle.mdoc_layout.proofs.page.Page.put_numbered.Goals as goal

pub put_number-requires : goal.put_number-requires
put_number-requires c = grind (arith, common_steps)

pub extend-requires-2 : goal.extend-requires-2
extend-requires-2 c = grind (arith, common_steps)

pub put_number-requires-2 : goal.put_number-requires-2
put_number-requires-2 c = grind (arith, common_steps)

pub extend-requires-3 : goal.extend-requires-3
extend-requires-3 c = grind (arith, common_steps)

pub returns-clause-page : goal.returns-clause-page
returns-clause-page c = grind (arith, common_steps)

pub returns-clause-items : goal.returns-clause-items
returns-clause-items c = grind (arith, common_steps)

pub returns-clause-few : goal.returns-clause-few
returns-clause-few c = grind (arith, common_steps)
