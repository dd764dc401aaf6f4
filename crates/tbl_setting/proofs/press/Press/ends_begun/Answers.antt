use Rattle.std.proofs.Common.{[], sym, ◌∙◌, refl, false, true}
use Rattle.tbl_setting.specs.Held.{table_strokes}
use Rattle.tbl_drawing.specs.Held.{has_begun}
use Rattle.tbl_drawing.proofs.Chosen.{nothing_chosen}
use Rattle.tbl_setting.proofs.Pieces.{chosen_reported, nothing_reported}
use Rattle.tbl_setting.specs.Setting.{end_reported}
use Rattle.tbl_setting.proofs.press.Press.ends_begun.Goals as goal

pub returns-else-has_begun-clause-draws : goal.returns-else-has_begun-clause-draws
returns-else-has_begun-clause-draws g c =
    let t = c.args.self.now.setting.now in
    nothing_chosen (has_begun t.layout) (table_strokes true t) (sym c.has_begun.ensures ∙ c.if-has_begun.false)

pub returns-else-has_begun-clause-notes : goal.returns-else-has_begun-clause-notes
returns-else-has_begun-clause-notes g c =
    let t = c.args.self.now.setting.now in
    chosen_reported false (has_begun t.layout) (end_reported t) [] (sym c.has_begun.ensures ∙ c.if-has_begun.false) (nothing_reported (refl, refl))

pub returns-then-has_begun-clause-notes : goal.returns-then-has_begun-clause-notes
returns-then-has_begun-clause-notes g c =
    let t = c.args.self.now.setting.now in
    chosen_reported true (has_begun t.layout) (end_reported t) [] (sym c.has_begun.ensures ∙ c.if-has_begun.true) c.end_table.ensures.notes
