use Rattle.std.proofs.Common.{arith}
use Rattle.std.proofs.lemmas.Grind.{common_steps}
use Rattle.preconv_characters.proofs.likeness.put_beyond.Goals as goal

pub returns-then-is_blank-clause-few : goal.returns-then-is_blank-clause-few
returns-then-is_blank-clause-few c = grind (arith, common_steps)

pub returns-in-Some-clause-few : goal.returns-in-Some-clause-few
returns-in-Some-clause-few c = grind (arith, common_steps)

pub returns-in-Some-box_like-clause-few : goal.returns-in-Some-box_like-clause-few
returns-in-Some-box_like-clause-few c = grind (arith, common_steps)
