use Rattle.std.proofs.Common.{refl}
use Rattle.tbl_reader.proofs.Lines.{took_plain}
use Rattle.tbl_reader.proofs.reader.Reader.passes_plain.Goals as goal

pub returns : goal.returns
returns g c =
    took_plain g.S.Setter.shows g.S.Setter.hears c.args.bytes.now _ c.args.start c.args.self.now c.passes_plain_byte.new.self c.args.setter.now c.passes_plain_byte.new.setter
    c.requires.mode c.requires.some refl c.requires.fits c.passes_plain_byte.ensures.page c.passes_plain_byte.ensures.emitted
