use Rattle.std.proofs.Common.{rules}
use Rattle.nr_input.proofs.place.Place.next_item.Goals as goal

pub returns-then-self : goal.returns-then-self
returns-then-self c = search rules
