use Rattle.utf8_own_characters.proofs.RowLaws.{one_way, halves_are_apart}
use Rattle.utf8_own_characters.proofs.laws.rows_are_read_in_one_way.Goals as goal

pub returns-clause-texts : goal.returns-clause-texts
returns-clause-texts c = one_way

pub returns-clause-halves : goal.returns-clause-halves
returns-clause-halves c = halves_are_apart
