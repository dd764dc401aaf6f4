use Rattle.std.proofs.Common.{◌∙◌, ap, arith}
use Rattle.std.proofs.lemmas.Grind.{common_steps}
use Rattle.preconv_coding.specs.UnderCoding.{text_supply}
use Rattle.preconv_converter.specs.Reading.{first_reader}
use Rattle.preconv_converter.specs.Staged.{said, steps_said}
use Rattle.preconv_command.proofs.Turns.{complained_failures, complained_of, failures, turned}
use Rattle.preconv_command.proofs.program.ConverterTurns.turn.Goals as goal

pub invariant_of-self : goal.invariant_of-self
invariant_of-self g c = grind (arith, common_steps)

pub invariant_of-self-2 : goal.invariant_of-self-2
invariant_of-self-2 g c = grind (arith, common_steps)

pub returns-in-Some-clause-turned : goal.returns-in-Some-clause-turned
returns-in-Some-clause-turned g c =
    rw c.complained.ensures (complained_of (said (first_reader c.args.self.now.target)) c.args.name.now _ _ _ c.ended-ending.result
    (turned (said (first_reader c.args.self.now.target)) (steps_said (first_reader c.args.self.now.target)) 1536 c.args.name _ _ _ _ _ _ _ c.convert-outcome.result _ (c.over-source.ensures.supply ∙ ap text_supply c.over.ensures.supply)
    c.convert-outcome.ensures.ran c.ended-ending.ensures.ended))

pub returns-in-Some-clause-failures : goal.returns-in-Some-clause-failures
returns-in-Some-clause-failures g c =
    rw c.complained.ensures (complained_failures c.ended-ending.result _ _
    (failures c.convert-outcome.result c.args.name _ _ c.ended-ending.result _ _ _ c.ended-ending.ensures.ended c.convert-outcome.ensures.write_faults
    c.ended-ending.ensures.failures c.ended-ending.ensures.same))

pub returns-clause-turned : goal.returns-clause-turned
returns-clause-turned g c =
    turned (said (first_reader c.args.self.now.target)) (steps_said (first_reader c.args.self.now.target)) 1536 c.args.name _ _ _ _ _ _ _ c.convert-outcome.result _ (c.over-source.ensures.supply ∙ ap text_supply c.over.ensures.supply)
    c.convert-outcome.ensures.ran c.ended-ending.ensures.ended

pub returns-clause-failures : goal.returns-clause-failures
returns-clause-failures g c =
    failures c.convert-outcome.result c.args.name _ _ c.ended-ending.result _ _ _ c.ended-ending.ensures.ended c.convert-outcome.ensures.write_faults
    c.ended-ending.ensures.failures c.ended-ending.ensures.same
