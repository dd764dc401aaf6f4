use Rattle.std.proofs.Common.{sym, ◌∙◌}
use Rattle.tbl_reader.proofs.Parts.{line_closes}
use Rattle.tbl_reader.proofs.Lines.{took_newline}
use Rattle.tbl_reader.proofs.reader.Reader.ends_line.Goals as goal

pub returns-then-is_open : goal.returns-then-is_open
returns-then-is_open g c =
    let all = line_closes g.S.Setter.shows g.S.Setter.hears c.args.self.now c.read.new.self c.args.setter.now c.read.new.setter (sym c.is_open.ensures ∙ c.if-is_open.true)
    (took_newline g.S.Setter.shows g.S.Setter.hears c.args.self.now c.read.new.self c.args.setter.now c.read.new.setter c.read.result c.read.ensures) in
    record { page = all.page; emitted = all.emitted }
