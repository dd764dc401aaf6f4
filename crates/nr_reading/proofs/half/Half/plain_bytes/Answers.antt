use Rattle.std.proofs.Common.{rules}
use Rattle.nr_reading.proofs.half.Half.plain_bytes.Goals as goal

pub returns-clause-plain : goal.returns-clause-plain
returns-clause-plain c = search rules

pub returns-clause-stops : goal.returns-clause-stops
returns-clause-stops c = search rules
