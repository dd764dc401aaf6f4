use Rattle.utf8_converter.proofs.Turning.{Emits-err, Emits-ok}
use Rattle.utf8_converter.proofs.waiting.emit.Goals as goal

pub returns-clause-ok : goal.returns-clause-ok
returns-clause-ok g c =
    Emits-ok c.put.result (g.W.Sink.held c.args.output.now) (g.W.Sink.held c.put_pending.new.output) (g.W.Sink.held c.put.new.self) c.args.out.now.items c.args.bytes.now c.put_pending.new.out.items
    c.in_ok-put_pending.ensures.ok c.put.ensures.ok c.in_ok-put_pending.ensures.empty

pub returns-clause-err : goal.returns-clause-err
returns-clause-err g c =
    Emits-err c.put.result (g.W.Sink.held c.args.output.now) (g.W.Sink.held c.put_pending.new.output) (g.W.Sink.held c.put.new.self) c.args.out.now.items c.args.bytes.now
    c.in_ok-put_pending.ensures.ok c.put.ensures.err
