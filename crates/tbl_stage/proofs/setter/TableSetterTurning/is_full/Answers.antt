use Rattle.tbl_stage.proofs.Parts.{says_nothing}
use Rattle.tbl_stage.proofs.setter.TableSetterTurning.is_full.Goals as goal

pub returns : goal.returns
returns c = λ e. says_nothing _ _ e
