use Rattle.std.proofs.Common.{arith}
use Rattle.utf8_own_sink.specs.declared.cells.Half.TheVariants.{Nothing}
use Rattle.utf8_own_sink.proofs.Moving.{half-then}
use Rattle.utf8_own_sink.proofs.cells.Reader.read_fresh.Goals as goal

pub returns-clause-moves : goal.returns-clause-moves
returns-clause-moves c =
    half-then c.args.table.now c.args.self.now c.begin.new.self Nothing c.args.out.now.items c.put_plain-len.new.out.items c.begin.new.out.items c.args.bytes.now c.put_plain-len.result
    (omega (arith, c.if-len-gt0.false)) c.put_plain-len.ensures.moves c.requires.some c.requires.fresh c.begin.ensures.reader c.begin.ensures.items
