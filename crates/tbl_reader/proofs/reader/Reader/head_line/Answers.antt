use Rattle.std.proofs.Common.{◌≡◌, false, sym, ◌∙◌, ap}
use Prim.Native.Char.{code}
use Rattle.tbl_reader.specs.Commands.{is_command}
use Rattle.tbl_reader.specs.Pages.{line_of}
use Rattle.tbl_reader.proofs.Parts.{head_comes}
use Rattle.tbl_reader.proofs.reader.Reader.head_line.Goals as goal

pub returns : goal.returns
returns g c =
    let p = c.args.self.now in
    let no : is_command (code "E") (line_of p) ≡ false = ap (is_command (code "E")) (sym c.line.ensures) ∙ sym c.is_command.ensures ∙ c.if-is_command.false in
    let all = head_comes g.S.Setter.shows g.S.Setter.hears p c.options_line.new.self c.formats_line.new.self c.args.setter.now c.options_line.new.setter c.formats_line.new.setter no
    c.options_line.ensures.page c.options_line.ensures.emitted c.formats_line.ensures.page c.formats_line.ensures.emitted in
    record { page = all.page; emitted = all.emitted }
