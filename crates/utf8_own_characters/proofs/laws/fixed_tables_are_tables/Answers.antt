use Rattle.utf8_own_characters.proofs.FixedLaws.{same_bytes, same_characters}
use Rattle.utf8_own_characters.proofs.laws.fixed_tables_are_tables.Goals as goal

pub returns-clause-bytes : goal.returns-clause-bytes
returns-clause-bytes c = same_bytes

pub returns-clause-characters : goal.returns-clause-characters
returns-clause-characters c = same_characters
