use Rattle.std.proofs.Common.{rules}
use Rattle.fast_input.proofs.control_lines.read_next.Goals as goal

pub returns-then-is_reading-clause-read : goal.returns-then-is_reading-clause-read
returns-then-is_reading-clause-read g c = λ k holds. c.read_level_line.ensures.read k c.args.place.now _ holds

pub returns-then-is_reading-clause-pays : goal.returns-then-is_reading-clause-pays
returns-then-is_reading-clause-pays g c = c.read_level_line.ensures.pays c.args.place.now

pub returns-clause-some : goal.returns-clause-some
returns-clause-some g c = search rules
