use Rattle.std.proofs.Common.{ap, sym, ◌∙◌}
use Rattle.tbl_drawing.proofs.Tapes.{draws_same}
use Rattle.tbl_setting.specs.Held.{with_table}
use Rattle.tbl_setting.specs.Setting.{relief, relieved}
use Rattle.tbl_setting.proofs.Held.{table_room}
use Rattle.tbl_table.specs.declared.table.Table.{Table}
use Rattle.tbl_setting.proofs.press.Press.ends_line.Goals as goal

pub returns-clause-draws : goal.returns-clause-draws
returns-clause-draws g c =
    let s = c.args.self.now.setting.now in
    draws_same c.relieve.ensures.draws (ap (λ (k : Table). relief (with_table k s)) (sym c.end_line.ensures.value))

pub returns-clause-setting : goal.returns-clause-setting
returns-clause-setting g c =
    let s = c.args.self.now.setting.now in
    record {
      same = c.relieve.ensures.setting.same;
      now = c.relieve.ensures.setting.now ∙ ap (λ (k : Table). relieved (with_table k s)) c.end_line.ensures.value;
      room = c.relieve.ensures.setting.room ∙ table_room s c.end_line.new.table c.end_line.ensures.room;
    }
