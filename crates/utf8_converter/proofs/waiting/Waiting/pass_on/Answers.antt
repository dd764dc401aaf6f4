use Rattle.utf8_converter.proofs.Passing.{Waits-out}
use Rattle.utf8_converter.proofs.waiting.Waiting.pass_on.Goals as goal

pub returns-clause-takes : goal.returns-clause-takes
returns-clause-takes g c =
    Waits-out c.put_pending.result (g.W.Sink.held c.args.output.now) (g.W.Sink.held c.put_pending.new.output) c.args.self.now.turner.reader c.args.self.now.out.items c.put_pending.new.out.items c.args.self.now.turner.strays
    c.args.self.now.turner.counts c.put_pending.ensures.ok c.put_pending.ensures.err c.put_pending.ensures.empty
