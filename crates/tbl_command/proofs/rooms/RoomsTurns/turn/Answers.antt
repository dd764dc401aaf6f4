use Rattle.std.proofs.Common.{ap}
use Rattle.tbl_command.specs.Converting.{tbl}
use Rattle.tbl_command.proofs.Turns.{failures, turned}
use Rattle.tbl_command.proofs.rooms.RoomsTurns.turn.Goals as goal

pub returns-clause-turned : goal.returns-clause-turned
returns-clause-turned g c =
    turned c.tell_complaints-wrong.result c.args.self.now.held c.args.name.now _ _ _ _ _ _ _ _ c.convert-output.result.0.outcome _ c.over-source.ensures.supply
    c.convert-output.ensures.ran c.ended.ensures

pub returns-clause-failures : goal.returns-clause-failures
returns-clause-failures g c = failures c.tell_complaints-wrong.result c.convert-output.result.0.outcome _ _ _ c.ended.ensures c.convert-output.ensures.write_faults

pub returns-clause-same : goal.returns-clause-same
returns-clause-same g c = ap tbl c.convert-output.ensures.same
