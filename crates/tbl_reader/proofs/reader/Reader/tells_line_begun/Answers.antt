use Rattle.std.proofs.Common.{◌∙◌, ap}
use Rattle.tbl_reader.specs.declared.telling.Tell.TheVariants as tells
use Rattle.tbl_reader.specs.BlockLines.{unset_reported}
use Rattle.tbl_reader.specs.Pages.{Page}
use Rattle.tbl_reader.specs.Telling.{each}
use Rattle.tbl_reader.proofs.Hearing.{tells_append, each_same}
use Rattle.tbl_reader.proofs.reader.Reader.tells_line_begun.Goals as goal

pub returns-clause-emitted : goal.returns-clause-emitted
returns-clause-emitted g c =
    let p = c.args.self.now in
    let all = each_same g.S.Setter.shows g.S.Setter.hears tells.BlockText c.as_slice.result.now p.kept c.reports_unset.new.setter c.tell.new.self (c.as_slice.ensures.value ∙ ap (λ (p : Page). p.kept) c.self.view_is) c.tell.ensures in
    tells_append g.S.Setter.shows g.S.Setter.hears (unset_reported p) (each tells.BlockText p.kept)
    c.args.setter.now c.reports_unset.new.setter c.tell.new.self c.reports_unset.ensures all
