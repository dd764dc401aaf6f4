use Rattle.std.proofs.Common.{ℕ, List, ◌++◌, subst, ◌∙◌}
use Rattle.document_stages.specs.Running.{Flushes}
use Rattle.utf8_converter.specs.Reading.{ended}
use Rattle.utf8_converter.proofs.Passing.{Flushes-prefix}
use Rattle.utf8_converter.proofs.waiting.Waiting.close.Goals as goal

pub returns-in_err-put_pending-clause-err : goal.returns-in_err-put_pending-clause-err
returns-in_err-put_pending-clause-err g c =
    let held = g.W.Sink.held in
    let waits = c.args.self.now.out.items in
    let left = c.emit.new.out.items in
    let P : List ℕ → Type 0 = λ xs. Flushes (held c.args.output.now) (held c.emit.new.output) (waits ++ xs) left in
    Flushes-prefix c.from_residual-in_err-put_pending.result (held c.args.output.now) (held c.emit.new.output) (held c.put_pending.new.output) (waits ++ (ended c.args.self.now.turner.reader).bytes) left
    (subst P (c.text.ensures ∙ c.read_end-end.ensures.out) c.in_ok-emit.ensures.ok) c.in_err-put_pending.ensures.err
