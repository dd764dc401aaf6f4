use Rattle.std.proofs.Common.{arith}
use Rattle.std.proofs.lemmas.Grind.{common_steps}
use Rattle.mdoc_layout.proofs.page.Page.lay_any.Goals as goal

pub returns-in-Byte-clause-few : goal.returns-in-Byte-clause-few
returns-in-Byte-clause-few c = grind (arith, common_steps)

pub returns-in-Hyphen-clause-few : goal.returns-in-Hyphen-clause-few
returns-in-Hyphen-clause-few c = grind (arith, common_steps)

pub returns-in-Prefix-clause-few : goal.returns-in-Prefix-clause-few
returns-in-Prefix-clause-few c = grind (arith, common_steps)
