use Rattle.std.proofs.Common.{ap, sym, ◌∙◌, false}
use Rattle.tbl_setting.specs.Held.{table, table_strokes}
use Rattle.tbl_table.specs.Rows.{is_full}
use Rattle.tbl_drawing.proofs.Chosen.{nothing_chosen}
use Rattle.tbl_setting.specs.Setting.{cut_off}
use Rattle.tbl_setting.proofs.press.Press.make_room.Goals as goal

pub returns-else-is_full-clause-draws : goal.returns-else-is_full-clause-draws
returns-else-is_full-clause-draws g c =
    let t = c.args.self.now.setting.now in
    nothing_chosen (is_full (table t)) (table_strokes false (cut_off t)) (sym (c.is_full.ensures ∙ ap is_full c.table.ensures) ∙ c.if-is_full.false)
