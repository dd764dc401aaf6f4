use Rattle.std.proofs.Common.{arith}
use Rattle.std.proofs.lemmas.Grind.{common_steps}
use Rattle.preconv_characters.proofs.said.put_said.Goals as goal

pub extend-requires-in-Hang-2 : goal.extend-requires-in-Hang-2
extend-requires-in-Hang-2 c = grind (arith, common_steps)

pub extend-requires-in-Hang-3 : goal.extend-requires-in-Hang-3
extend-requires-in-Hang-3 c = grind (arith, common_steps)

pub returns-in-Byte-clause-few : goal.returns-in-Byte-clause-few
returns-in-Byte-clause-few c = grind (arith, common_steps)

pub returns-in-Kept-clause-few : goal.returns-in-Kept-clause-few
returns-in-Kept-clause-few c = grind (arith, common_steps)

pub returns-in-Hang-clause-items : goal.returns-in-Hang-clause-items
returns-in-Hang-clause-items c = grind (arith, common_steps)

pub returns-in-Hang-clause-few : goal.returns-in-Hang-clause-few
returns-in-Hang-clause-few c = grind (arith, common_steps)

pub returns-in-Escape-clause-few : goal.returns-in-Escape-clause-few
returns-in-Escape-clause-few c = grind (arith, common_steps)

pub returns-in-Font-clause-few : goal.returns-in-Font-clause-few
returns-in-Font-clause-few c = grind (arith, common_steps)

pub returns-in-Quotes-clause-few : goal.returns-in-Quotes-clause-few
returns-in-Quotes-clause-few c = grind (arith, common_steps)

pub returns-in-Comment-true-clause-few : goal.returns-in-Comment-true-clause-few
returns-in-Comment-true-clause-few c = grind (arith, common_steps)

pub returns-in-Comment-false-clause-few : goal.returns-in-Comment-false-clause-few
returns-in-Comment-false-clause-few c = grind (arith, common_steps)

pub returns-in-Arguments-clause-few : goal.returns-in-Arguments-clause-few
returns-in-Arguments-clause-few c = grind (arith, common_steps)

pub returns-in-QuotedArguments-clause-few : goal.returns-in-QuotedArguments-clause-few
returns-in-QuotedArguments-clause-few c = grind (arith, common_steps)
