use Rattle.std.proofs.Common.{arith, ap}
use Rattle.tbl_reader.specs.Pages.{at_mode}
use Rattle.tbl_reader.specs.declared.command.Start.TheVariants as starts
use Rattle.tbl_reader.specs.declared.state.Mode.TheVariants as modes
use Rattle.tbl_reader.proofs.Runs.{took_rest, took_line, line_on}
use Rattle.tbl_reader.proofs.reader.Reader.passes_line.Goals as goal

pub returns-then-len-bytes : goal.returns-then-len-bytes
returns-then-len-bytes g c =
    let value = c.line_len-len.ensures.value in
    let all = c.if-len-bytes.true in
    let some = c.requires.some in
    took_rest g.S.Setter.shows g.S.Setter.hears c.args.start c.args.bytes.now c.line_len-len.result c.args.self.now _ c.args.setter.now c.tell.new.self
    c.requires.mode c.requires.free (omega (arith, all, some)) (omega (arith, all)) value c.requires.fits
    (ap (at_mode (modes.Passing starts.Other)) c.self.view_is) c.tell.ensures

pub returns : goal.returns
returns g c =
    let value = c.line_len-len.ensures.value in
    let within = c.line_len-len.ensures.within in
    let other = c.if-len-bytes.false in
    took_line g.S.Setter.shows g.S.Setter.hears c.args.start c.args.bytes.now c.line_len-len.result c.args.self.now _ c.args.setter.now c.tell-2.new.self
    c.requires.mode c.requires.free value (omega (arith, within, other)) c.requires.fits
    (ap line_on c.self.view_is) c.tell-2.ensures
