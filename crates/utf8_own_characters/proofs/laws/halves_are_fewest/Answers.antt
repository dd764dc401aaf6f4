use Rattle.utf8_own_characters.proofs.ChoiceLaws.{fewest_are_sides}
use Rattle.utf8_own_characters.proofs.laws.halves_are_fewest.Goals as goal

pub returns : goal.returns
returns c = fewest_are_sides
