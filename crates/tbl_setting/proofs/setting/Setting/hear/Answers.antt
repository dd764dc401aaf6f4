use Rattle.tbl_setting.proofs.Heard.{page_room, page_value}
use Rattle.tbl_setting.proofs.setting.Setting.hear.Goals as goal

pub returns-clause-value : goal.returns-clause-value
returns-clause-value c = page_value c.args.self.now c.args.text.now c.hear.new.self c.hear.new.grid c.hear.ensures.value

pub returns-clause-room : goal.returns-clause-room
returns-clause-room c = page_room c.args.self.now c.args.text.now c.hear.new.self c.hear.new.grid c.hear.ensures.value c.hear.ensures.room
