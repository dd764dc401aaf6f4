use Rattle.tbl_setting.proofs.Held.{layout_room}
use Rattle.tbl_setting.proofs.setting.Setting.begin_table.Goals as goal

pub returns-clause-room : goal.returns-clause-room
returns-clause-room c = layout_room c.args.self.now c.begin.new.self c.begin.ensures.room
