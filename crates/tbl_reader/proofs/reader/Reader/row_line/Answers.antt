use Rattle.tbl_reader.proofs.Parts.{row_comes}
use Rattle.tbl_reader.proofs.reader.Reader.row_line.Goals as goal

pub returns : goal.returns
returns g c =
    let all = row_comes g.S.Setter.shows g.S.Setter.hears c.args.self.now c.cleans_line-alone.new.self c.tell_ended.new.self c.goes_on.new.self c.cleans_line-alone.result
    c.args.setter.now c.tell_ended.new.setter c.goes_on.new.setter c.cleans_line-alone.ensures.page c.cleans_line-alone.ensures.alone
    c.tell_ended.ensures.page c.tell_ended.ensures.emitted c.goes_on.ensures.page c.goes_on.ensures.emitted in
    record { page = all.page; emitted = all.emitted }
