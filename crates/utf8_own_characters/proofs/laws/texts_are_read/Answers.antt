use Rattle.utf8_own_characters.proofs.TextsRead.{reads_text}
use Rattle.utf8_own_characters.proofs.laws.texts_are_read.Goals as goal

pub returns : goal.returns
returns c = reads_text
