use Rattle.std.proofs.Common.{ap}
use Rattle.tbl_reader.specs.Reading.{lines_on}
use Rattle.tbl_reader.proofs.Runs.{took_lines}
use Rattle.tbl_reader.proofs.reader.Reader.passes_lines.Goals as goal

pub returns : goal.returns
returns g c =
    took_lines g.S.Setter.shows g.S.Setter.hears c.args.bytes.now c.args.lines c.args.self.now _ c.args.setter.now c.tell.new.self
    c.requires.mode c.requires.free c.requires.some c.requires.within c.requires.few c.requires.fits
    (ap (lines_on c.args.lines.count) c.self.view_is) c.tell.ensures
