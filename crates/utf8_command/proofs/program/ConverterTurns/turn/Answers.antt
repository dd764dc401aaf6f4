use Rattle.std.proofs.Common.{arith}
use Rattle.std.proofs.lemmas.Grind.{common_steps}
use Rattle.utf8_converter.specs.Running.{drops, says}
use Rattle.utf8_command.proofs.Turns.{failures, turned}
use Rattle.utf8_command.proofs.program.ConverterTurns.turn.Goals as goal

pub invariant_of-self : goal.invariant_of-self
invariant_of-self g c = grind (arith, common_steps)

pub returns-clause-turned : goal.returns-clause-turned
returns-clause-turned g c =
    let how = c.args.self.now.how in
    turned (says how.0 how.1) (drops how.0 how.1) 1536 c.args.name _ _ _ _ _ _ c.convert-outcome.result _ c.over-source.ensures.supply c.convert-outcome.ensures.ran.ran c.ended.ensures

pub returns-clause-failures : goal.returns-clause-failures
returns-clause-failures g c = failures c.args.name c.convert-outcome.result _ _ _ c.ended.ensures c.convert-outcome.ensures.write_faults
