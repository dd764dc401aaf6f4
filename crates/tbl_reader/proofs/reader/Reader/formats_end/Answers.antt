use Rattle.std.proofs.Common.{ap}
use Rattle.tbl_reader.specs.Pages.{Page}
use Rattle.tbl_reader.proofs.Parts.{formats_come}
use Rattle.tbl_reader.proofs.reader.Reader.formats_end.Goals as goal

pub returns : goal.returns
returns g c =
    let all = formats_come g.S.Setter.shows g.S.Setter.hears c.args.self.now c.self.inside.state.formats c.tell_formats-formats.result c.rest.result.now
    c.takes_formats-wrong.result c.takes_formats-wrong.new.self c.judges_formats.new.self c.args.setter.now c.tell_formats-formats.new.setter c.tell.new.self c.judges_formats.new.setter
    (ap (λ (x : Page). x.state.formats) c.self.view_is) c.rest.ensures c.tell_formats-formats.ensures.formats c.tell_formats-formats.ensures.emitted c.tell.ensures
    c.takes_formats-wrong.ensures.wrong c.takes_formats-wrong.ensures.page c.judges_formats.ensures.page c.judges_formats.ensures.emitted in
    record { page = all.page; emitted = all.emitted }
