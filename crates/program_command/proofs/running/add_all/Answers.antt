use Rattle.program_command.proofs.Reading.{Adds-byte, Adds-end}
use Rattle.program_command.proofs.running.add_all.Goals as goal

pub returns-in-Ok-None : goal.returns-in-Ok-None
returns-in-Ok-None g c = λ whole q known.
    Adds-end _ _ q _ _ (c.loop.invariant q known) (rw c.in-Ok-None.field-0-is at c.in-Ok-None.ensures.gives)

pub loop-preserved : goal.loop-preserved
loop-preserved g c = λ q known.
    Adds-byte _ _ _ q _ _ c.in-Ok-Some.byte (c.loop.invariant q known) (rw c.in-Ok-Some.field-0-is at c.in-Ok-Some.ensures.gives) c.in_ok-push-in-Ok-Some.ensures.items
