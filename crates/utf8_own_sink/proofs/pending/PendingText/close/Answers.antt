-- Room is made, and what the end comes to goes out after what waits.
use Rattle.utf8_own_sink.specs.Reading.{ended}
use Rattle.utf8_own_sink.proofs.Passing.{Closes-err, Closes-ok, Closes-room}
use Rattle.utf8_own_sink.proofs.pending.PendingText.close.Goals as goal

pub returns-in_err-make_room-clause-err : goal.returns-in_err-make_room-clause-err
returns-in_err-make_room-clause-err g c =
    Closes-room c.from_residual.result (g.W.Sink.held c.args.output.now) (g.W.Sink.held c.make_room.new.output) c.args.self.now.out.items (ended c.args.table.now c.args.self.now.reader) c.in_err-make_room.ensures.err

pub returns-clause-ok : goal.returns-clause-ok
returns-clause-ok g c =
    Closes-ok c.put_waiting.result (g.W.Sink.held c.args.output.now) (g.W.Sink.held c.make_room.new.output) (g.W.Sink.held c.put_waiting.new.output) c.args.self.now.out.items c.make_room.new.out.items
    (ended c.args.table.now c.args.self.now.reader) c.finish.new.out.items c.in_ok-make_room.ensures.ok c.finish.ensures.items c.put_waiting.ensures.ok

pub returns-clause-err : goal.returns-clause-err
returns-clause-err g c =
    Closes-err c.put_waiting.result (g.W.Sink.held c.args.output.now) (g.W.Sink.held c.make_room.new.output) (g.W.Sink.held c.put_waiting.new.output) c.args.self.now.out.items c.make_room.new.out.items
    (ended c.args.table.now c.args.self.now.reader) c.finish.new.out.items c.in_ok-make_room.ensures.ok c.finish.ensures.items c.put_waiting.ensures.err
