use Rattle.tbl_drawing.proofs.TablesRead.{fields_read_stand_once, room_is_enough, rows_read_go_out}
use Rattle.tbl_drawing.proofs.laws.room_is_enough.Goals as goal

pub returns-clause-room : goal.returns-clause-room
returns-clause-room c = room_is_enough

pub returns-clause-once : goal.returns-clause-once
returns-clause-once c = fields_read_stand_once

pub returns-clause-rows : goal.returns-clause-rows
returns-clause-rows c = rows_read_go_out
