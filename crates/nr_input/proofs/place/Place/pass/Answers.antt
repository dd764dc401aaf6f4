use Rattle.std.proofs.Common.{rules}
use Rattle.nr_input.proofs.place.Place.pass.Goals as goal

pub returns-in-Byte : goal.returns-in-Byte
returns-in-Byte c = search rules
