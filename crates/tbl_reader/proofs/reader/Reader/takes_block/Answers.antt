use Rattle.std.proofs.Common.{arith}
use Rattle.tbl_reader.proofs.Runs.{took_block}
use Rattle.tbl_reader.proofs.reader.Reader.takes_block.Goals as goal

pub returns-then-len-gt0 : goal.returns-then-len-gt0
returns-then-len-gt0 g c =
    took_block g.S.Setter.shows g.S.Setter.hears c.args.bytes.now c.line_len-len.result c.args.self.now c.args.setter.now c.tell.new.self
    c.requires.mode (omega arith) c.line_len-len.ensures.within (let value = c.line_len-len.ensures.value in omega (arith, value)) c.requires.fits c.tell.ensures
