use Rattle.std.proofs.Common.{ap, sym, ◌∙◌, false}
use Rattle.tbl_setting.specs.Held.{table, table_strokes}
use Rattle.tbl_table.specs.Rows.{is_tight}
use Rattle.tbl_drawing.proofs.Chosen.{nothing_chosen}
use Rattle.tbl_setting.proofs.press.Press.relieve.Goals as goal

pub returns-else-is_tight-clause-draws : goal.returns-else-is_tight-clause-draws
returns-else-is_tight-clause-draws g c =
    let t = c.args.self.now.setting.now in
    nothing_chosen (is_tight (table t)) (table_strokes false t) (sym (c.is_tight.ensures ∙ ap is_tight c.table.ensures) ∙ c.if-is_tight.false)
