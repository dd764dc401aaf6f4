use Rattle.std.proofs.Common.{arith}
use Rattle.std.proofs.lemmas.Grind.{common_steps}
use Rattle.man_lint.specs.Names.{is_among}
use Rattle.man_lint.proofs.names.is_listed.Goals as goal

pub returns-then-eq : goal.returns-then-eq
unfolding is_among
returns-then-eq c = grind (arith, common_steps)

pub loop-byte-preserved : goal.loop-byte-preserved
unfolding is_among
loop-byte-preserved c = grind (arith, common_steps)

pub returns : goal.returns
unfolding is_among
returns c = grind (arith, common_steps)
