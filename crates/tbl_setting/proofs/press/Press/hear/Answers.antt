use Rattle.std.proofs.Common.{ap, refl, ◌∙◌}
use Rattle.tbl_setting.proofs.Pieces.{becomes_for, drawn_for, line_becomes, line_drawn, line_reported, reported_for}
use Rattle.tbl_setting.proofs.Held.{table_becomes}
use Rattle.tbl_setting.specs.Held.{table}
use Rattle.tbl_table.specs.declared.table.Form.{Form}
use Rattle.tbl_table.specs.declared.table.Looks.{Looks}
use Rattle.tbl_table.specs.Rows.{mark_added}
use Rattle.tbl_table.specs.Table.{looking}
use Rattle.tbl_setting.proofs.press.Press.hear.Goals as goal

pub returns-in-PlainEnd-clause-draws : goal.returns-in-PlainEnd-clause-draws
returns-in-PlainEnd-clause-draws g c = drawn_for _ _ _ _ c.in-PlainEnd.is c.put-in-PlainEnd.ensures.draws

pub returns-in-Row-clause-draws : goal.returns-in-Row-clause-draws
returns-in-Row-clause-draws g c = line_drawn _ _ _ _ c.in-Row.is refl c.ends_line.ensures.draws

pub returns-in-Row-clause-setting : goal.returns-in-Row-clause-setting
returns-in-Row-clause-setting g c = line_becomes _ _ _ _ _ _ c.in-Row.is refl c.ends_line.ensures.setting

pub returns-in-Rule-clause-draws : goal.returns-in-Rule-clause-draws
returns-in-Rule-clause-draws g c = line_drawn _ _ _ _ c.in-Rule.is refl c.ends_line-in-Rule.ensures.draws

pub returns-in-Rule-clause-setting : goal.returns-in-Rule-clause-setting
returns-in-Rule-clause-setting g c = line_becomes _ _ _ _ _ _ c.in-Rule.is refl c.ends_line-in-Rule.ensures.setting

pub returns-in-Request-clause-draws : goal.returns-in-Request-clause-draws
returns-in-Request-clause-draws g c = line_drawn _ _ _ _ c.in-Request.is refl c.ends_line-in-Request.ensures.draws

pub returns-in-Request-clause-setting : goal.returns-in-Request-clause-setting
returns-in-Request-clause-setting g c = line_becomes _ _ _ _ _ _ c.in-Request.is refl c.ends_line-in-Request.ensures.setting

pub returns-in-Row-clause-notes : goal.returns-in-Row-clause-notes
returns-in-Row-clause-notes g c = line_reported _ _ _ c.in-Row.is refl c.ends_line.ensures.complaints

pub returns-in-Request-clause-notes : goal.returns-in-Request-clause-notes
returns-in-Request-clause-notes g c = line_reported _ _ _ c.in-Request.is refl c.ends_line-in-Request.ensures.complaints

pub returns-in-Formats-clause-setting : goal.returns-in-Formats-clause-setting
returns-in-Formats-clause-setting g c =
    becomes_for _ _ _ _ _ _ c.in-Formats.is (table_becomes _ _ c.formats_begin.new.self _ refl refl c.formats_begin.ensures.value c.formats_begin.ensures.room)

pub returns-in-FormatsEnd-clause-setting : goal.returns-in-FormatsEnd-clause-setting
returns-in-FormatsEnd-clause-setting g c =
    becomes_for _ _ _ _ _ _ c.in-FormatsEnd.is (table_becomes _ _ c.formats_end.new.self _ refl refl c.formats_end.ensures.value c.formats_end.ensures.room)

pub returns-in-Field-clause-setting : goal.returns-in-Field-clause-setting
returns-in-Field-clause-setting g c =
    becomes_for _ _ _ _ _ _ c.in-Field.is (table_becomes _ _ c.add_field.new.self _ refl refl c.add_field.ensures.value c.add_field.ensures.room)

pub returns-in-Block-clause-setting : goal.returns-in-Block-clause-setting
returns-in-Block-clause-setting g c =
    becomes_for _ _ _ _ _ _ c.in-Block.is (table_becomes _ _ c.text_begins.new.self _ refl refl c.text_begins.ensures.value c.text_begins.ensures.room)

pub returns-in-BlockEnd-clause-setting : goal.returns-in-BlockEnd-clause-setting
returns-in-BlockEnd-clause-setting g c =
    becomes_for _ _ _ _ _ _ c.in-BlockEnd.is (table_becomes _ _ c.block_ends.new.self _ refl refl c.block_ends.ensures.value c.block_ends.ensures.room)

pub returns-in-Format-clause-setting : goal.returns-in-Format-clause-setting
returns-in-Format-clause-setting g c =
    becomes_for _ _ _ _ _ _ c.in-Format.is (table_becomes _ _ c.tell_called.new.table _ refl refl c.tell_called.ensures.value c.tell_called.ensures.room)

pub returns-in-Options-clause-setting : goal.returns-in-Options-clause-setting
returns-in-Options-clause-setting g c =
    let s = c.args.self.now.setting.now in
    becomes_for _ _ _ _ _ _ c.in-Options.is
    (table_becomes _ _ c.set_looks.new.self _ refl refl (c.set_looks.ensures.value ∙ ap (λ (l : Looks). looking l (table s)) c.looks_of.ensures) c.set_looks.ensures.room)

pub returns-in-Mark-clause-setting : goal.returns-in-Mark-clause-setting
returns-in-Mark-clause-setting g c =
    let s = c.args.self.now.setting.now in
    becomes_for _ _ _ _ _ _ c.in-Mark.is
    (table_becomes _ _ c.add_mark.new.self _ refl refl (c.add_mark.ensures.value ∙ ap (λ (f : Form). mark_added f (table s)) c.form_of.ensures) c.add_mark.ensures.room)

pub returns-in-TableEnd-clause-notes : goal.returns-in-TableEnd-clause-notes
returns-in-TableEnd-clause-notes g c = reported_for _ _ _ c.in-TableEnd.is c.end_table.ensures.notes

pub returns-in-Plain-clause-notes : goal.returns-in-Plain-clause-notes
returns-in-Plain-clause-notes g c = reported_for _ _ _ c.in-Plain.is c.stands.ensures.notes

pub returns-in-Rule-clause-notes : goal.returns-in-Rule-clause-notes
returns-in-Rule-clause-notes g c = line_reported _ _ _ c.in-Rule.is refl c.ends_line-in-Rule.ensures.complaints

pub returns-in-Wrong-clause-notes : goal.returns-in-Wrong-clause-notes
returns-in-Wrong-clause-notes g c = reported_for _ _ _ c.in-Wrong.is c.note.ensures.notes
