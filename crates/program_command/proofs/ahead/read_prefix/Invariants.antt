-- What is to come is what came and what is to come now.
use Rattle.std.proofs.Common.{◌-◌, length}
use Rattle.document_stages.specs.Joined.{joined}
use Rattle.document_stages.specs.Pulling.{Stays}
use Rattle.program_command.proofs.ahead.read_prefix.Given as goal

abbrev pub invariant-loop-text : goal.invariant-loop-text
invariant-loop-text g l = Stays (joined l.initial.bytes.items (g.S.Source.supply l.initial.text)) (joined l.bytes.items (g.S.Source.supply l.text))

abbrev pub decreases-loop-text : goal.decreases-loop-text
decreases-loop-text g l = l.most - length l.bytes.items
