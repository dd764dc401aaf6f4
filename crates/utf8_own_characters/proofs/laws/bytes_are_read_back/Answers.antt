use Rattle.utf8_own_characters.proofs.RowLaws.{inverse, inverse_whole}
use Rattle.utf8_own_characters.proofs.laws.bytes_are_read_back.Goals as goal

pub returns-clause-after : goal.returns-clause-after
returns-clause-after c = inverse

pub returns-clause-whole : goal.returns-clause-whole
returns-clause-whole c = inverse_whole
