use Rattle.utf8_own_stage.proofs.Back.{comes_back}
use Rattle.utf8_own_stage.proofs.laws.coded_texts_come_back.Goals as goal

pub returns : goal.returns
returns c = comes_back
