use Rattle.std.proofs.Common.{sym, ◌∙◌}
use Rattle.tbl_reader.proofs.Parts.{end_comes}
use Rattle.tbl_reader.proofs.reader.Reader.finish.Goals as goal

pub returns : goal.returns
returns g c =
    let all = end_comes g.S.Setter.shows g.S.Setter.hears c.args.self.now c.ends_line.new.self c.ends_in_table.new.self
    c.args.setter.now c.ends_line.new.setter c.ends_in_table.new.setter (sym c.is_begin.ensures ∙ c.if-is_begin.false)
    c.ends_line.ensures.page c.ends_line.ensures.emitted c.ends_in_table.ensures.page c.ends_in_table.ensures.emitted in
    record { page = all.page; emitted = all.emitted }
