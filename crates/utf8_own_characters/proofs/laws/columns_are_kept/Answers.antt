use Rattle.utf8_own_characters.proofs.RowLaws.{columns_are_bytes, columns_stay}
use Rattle.utf8_own_characters.proofs.laws.columns_are_kept.Goals as goal

pub returns-clause-bytes : goal.returns-clause-bytes
returns-clause-bytes c = columns_are_bytes

pub returns-clause-rows : goal.returns-clause-rows
returns-clause-rows c = columns_stay
