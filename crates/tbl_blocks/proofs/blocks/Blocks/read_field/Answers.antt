use Rattle.std.proofs.Common.{◌∙◌, ap}
use Rattle.tbl_blocks.specs.Blocks.{emptied}
use Rattle.tbl_blocks.proofs.Rooms.{field_room}
use Rattle.tbl_blocks.proofs.blocks.Blocks.read_field.Goals as goal

pub returns-clause-room : goal.returns-clause-room
returns-clause-room c = ap emptied c.read_all_words.ensures ∙ field_room c.args.text.now c.args.place c.args.font c.args.self.now
