use Rattle.std.proofs.Common.{arith}
use Rattle.std.proofs.lemmas.Grind.{common_steps}
use Rattle.preconv_characters.proofs.likeness.put_ascii.Goals as goal

pub returns-in-32-clause-few : goal.returns-in-32-clause-few
returns-in-32-clause-few c = grind (arith, common_steps)

pub returns-in-34-clause-few : goal.returns-in-34-clause-few
returns-in-34-clause-few c = grind (arith, common_steps)

pub returns-in-39-clause-few : goal.returns-in-39-clause-few
returns-in-39-clause-few c = grind (arith, common_steps)

pub returns-in-46-clause-few : goal.returns-in-46-clause-few
returns-in-46-clause-few c = grind (arith, common_steps)

pub returns-in-61-clause-few : goal.returns-in-61-clause-few
returns-in-61-clause-few c = grind (arith, common_steps)

pub returns-in-95-clause-few : goal.returns-in-95-clause-few
returns-in-95-clause-few c = grind (arith, common_steps)

pub returns-in-92-clause-few : goal.returns-in-92-clause-few
returns-in-92-clause-few c = grind (arith, common_steps)

pub returns-in-33-to-126-clause-few : goal.returns-in-33-to-126-clause-few
returns-in-33-to-126-clause-few c = grind (arith, common_steps)
