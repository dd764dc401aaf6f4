use Rattle.tbl_reader.specs.RowLines.{last_field, row_ended}
use Rattle.tbl_reader.proofs.Parts.{comes_then}
use Rattle.tbl_reader.proofs.reader.Reader.last_field_ends.Goals as goal

pub returns : goal.returns
returns g c =
    let all = comes_then g.S.Setter.shows g.S.Setter.hears (last_field c.args.self.now) row_ended c.tell_last_field.new.self c.row_ends.new.self
    c.args.setter.now c.tell_last_field.new.setter c.row_ends.new.setter c.tell_last_field.ensures.page c.tell_last_field.ensures.emitted c.row_ends.ensures.page c.row_ends.ensures.emitted in
    record { page = all.page; emitted = all.emitted }
