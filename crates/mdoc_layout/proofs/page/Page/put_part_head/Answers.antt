use Rattle.std.proofs.Common.{arith}
use Rattle.std.proofs.lemmas.Grind.{common_steps}
use Rattle.mdoc_layout.proofs.page.Page.put_part_head.Goals as goal

pub extend-requires : goal.extend-requires
extend-requires c = grind (arith, common_steps)

pub returns-then-has_part-clause-items : goal.returns-then-has_part-clause-items
returns-then-has_part-clause-items c = grind (arith, common_steps)

pub returns-then-has_part-clause-few : goal.returns-then-has_part-clause-few
returns-then-has_part-clause-few c = grind (arith, common_steps)

pub extend-requires-2 : goal.extend-requires-2
extend-requires-2 c = grind (arith, common_steps)

pub returns-then-not-is_full-clause-page : goal.returns-then-not-is_full-clause-page
returns-then-not-is_full-clause-page c = grind (arith, common_steps)

pub returns-then-not-is_full-clause-items : goal.returns-then-not-is_full-clause-items
returns-then-not-is_full-clause-items c = grind (arith, common_steps)

pub returns-then-not-is_full-clause-few : goal.returns-then-not-is_full-clause-few
returns-then-not-is_full-clause-few c = grind (arith, common_steps)

pub returns-else-not-is_full-clause-items : goal.returns-else-not-is_full-clause-items
returns-else-not-is_full-clause-items c = grind (arith, common_steps)

pub returns-else-not-is_full-clause-few : goal.returns-else-not-is_full-clause-few
returns-else-not-is_full-clause-few c = grind (arith, common_steps)
