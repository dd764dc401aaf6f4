-- What came, and what is left, is what was to come.
use Rattle.std.proofs.Common.{◌-◌, length}
use Rattle.document_stages.specs.Joined.{joined}
use Rattle.document_stages.specs.Pulling.{Stays}
use Rattle.program_command.proofs.ahead.read_ahead.Given as goal

abbrev pub invariant-loop-text : goal.invariant-loop-text
invariant-loop-text g l = Stays (g.S.Source.supply l.initial.text) (joined l.bytes.items (g.S.Source.supply l.text))

abbrev pub decreases-loop-text : goal.decreases-loop-text
decreases-loop-text g l = 67108864 - length l.bytes.items
