use Rattle.utf8_own_sink.proofs.Passing.{Waits-out}
use Rattle.utf8_own_sink.proofs.pending.PendingText.pass_on.Goals as goal

pub returns-clause-takes : goal.returns-clause-takes
returns-clause-takes g c table =
    Waits-out table c.put_waiting.result (g.W.Sink.held c.args.output.now) (g.W.Sink.held c.put_waiting.new.output) c.args.self.now.reader c.args.self.now.out.items c.put_waiting.new.out.items
    c.put_waiting.ensures.ok c.put_waiting.ensures.err c.put_waiting.ensures.empty
