use Rattle.utf8_own_characters.proofs.Covered.{all_are_covered}
use Rattle.utf8_own_characters.proofs.laws.tables_that_fit_cover_all.Goals as goal

pub returns : goal.returns
returns c = all_are_covered
