use Rattle.std.proofs.Common.{rules}
use Rattle.nr_reading.proofs.half.Half.begin.Goals as goal

pub returns-then-counted-named-le-DEEPEST : goal.returns-then-counted-named-le-DEEPEST
returns-then-counted-named-le-DEEPEST c = search rules
