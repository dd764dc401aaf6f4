use Rattle.utf8_converter.proofs.Turning.{Flushes-none, Flushes-on}
use Rattle.utf8_own_sink.proofs.pending.make_room.Goals as goal

pub returns-then-capacity-len-ge-MOST-clause-ok : goal.returns-then-capacity-len-ge-MOST-clause-ok
returns-then-capacity-len-ge-MOST-clause-ok g c = Flushes-none (g.W.Sink.held c.args.output.now) c.args.out.now.items

pub returns-clause-ok : goal.returns-clause-ok
returns-clause-ok g c =
    Flushes-on c.put_waiting.result (g.W.Sink.held c.args.output.now) (g.W.Sink.held c.put_waiting.new.output) c.args.out.now.items c.put_waiting.new.out.items
    c.put_waiting.ensures.ok c.put_waiting.ensures.empty
