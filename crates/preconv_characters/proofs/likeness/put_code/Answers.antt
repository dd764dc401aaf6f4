use Rattle.std.proofs.Common.{arith}
use Rattle.std.proofs.lemmas.Grind.{common_steps}
use Rattle.preconv_characters.proofs.likeness.put_code.Goals as goal

pub push-requires : goal.push-requires
push-requires c = grind (arith, common_steps)

pub push-requires-then-code-ge65536 : goal.push-requires-then-code-ge65536
push-requires-then-code-ge65536 c = grind (arith, common_steps)

pub extend-requires-2 : goal.extend-requires-2
extend-requires-2 c = grind (arith, common_steps)

pub returns-clause-items : goal.returns-clause-items
returns-clause-items c = grind (arith, common_steps)

pub returns-clause-few : goal.returns-clause-few
returns-clause-few c = grind (arith, common_steps)
