use Rattle.std.proofs.Common.{◌∙◌, ap}
use Rattle.tbl_blocks.specs.Blocks.{emptied}
use Rattle.tbl_blocks.proofs.Rooms.{filled_room}
use Rattle.tbl_blocks.proofs.blocks.Blocks.fill.Goals as goal

pub returns-clause-room : goal.returns-clause-room
returns-clause-room c = ap emptied c.fill_in.ensures ∙ filled_room c.args.first c.args.«end» c.args.width c.args.spread c.args.self.now
