use Rattle.tbl_setting.proofs.Pieces.{tells_said}
use Rattle.tbl_setting.proofs.press.PressSetter.tell.Goals as goal

pub returns : goal.returns
returns g c = λ s h. tells_said _ _ _ _ _ _ _ _ _ _ c.hear.ensures.draws c.hear.ensures.setting c.hear.ensures.notes s h
