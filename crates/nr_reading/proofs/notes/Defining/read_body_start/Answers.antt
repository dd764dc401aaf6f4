use Rattle.std.proofs.Common.{arith}
use Rattle.std.proofs.lemmas.Grind.{common_steps}
use Rattle.nr_reading.proofs.notes.Defining.read_body_start.Goals as goal

pub returns-then-byte-last_line_byte : goal.returns-then-byte-last_line_byte
returns-then-byte-last_line_byte c = grind (arith, common_steps)
