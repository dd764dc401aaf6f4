use Rattle.std.proofs.Common.{take}
use Rattle.utf8_own_sink.proofs.Going.{decoding-taken}
use Rattle.utf8_own_sink.proofs.staged.DecoderStage.turn.Goals as goal

pub returns-clause-says : goal.returns-clause-says
returns-clause-says c =
    decoding-taken c.args.self.now.table.now c.args.self.now.reader c.read_all.new.reader (take c.min-len.result c.args.bytes.now) c.args.out.now.items c.read_all.new.out.items
    c.read_all.ensures.reader c.read_all.ensures.items
