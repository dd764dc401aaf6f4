use Rattle.std.proofs.Common.{◌∙◌, arith}
use Rattle.std.proofs.lemmas.Grind.{common_steps}
use Rattle.mdoc_command.proofs.Turns.{failures, turned}
use Rattle.mdoc_command.proofs.rooms.RoomsTurns.turn.Goals as goal

pub invariant_of-self : goal.invariant_of-self
invariant_of-self g c = grind (arith, common_steps)

pub returns-clause-turned : goal.returns-clause-turned
returns-clause-turned g c =
    turned c.are_some-wrong.result c.args.name.now _ _ _ _ _ _ c.convert-outcome.result _ (c.over-watched.ensures.supply ∙ c.over-source.ensures.supply)
    c.convert-outcome.ensures.ran c.ended.ensures

pub returns-clause-failures : goal.returns-clause-failures
returns-clause-failures g c = failures c.are_some-wrong.result c.convert-outcome.result _ _ _ c.ended.ensures c.convert-outcome.ensures.write_faults
