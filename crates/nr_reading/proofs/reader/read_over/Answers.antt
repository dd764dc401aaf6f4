use Rattle.std.proofs.Common.{◌∙◌}
use Rattle.nr_reading.proofs.Over.{over_is_newline}
use Rattle.nr_reading.proofs.reader.read_over.Goals as goal

pub returns-in_default : goal.returns-in_default
returns-in_default c = c.read.ensures ∙ over_is_newline c.args.reading.now.mode c.args.signs c.args.notes.now c.args.reading.now c.in_default.not-BodyStart
