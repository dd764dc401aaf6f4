use Rattle.tbl_stage.proofs.Parts.{says_nothing}
use Rattle.tbl_stage.proofs.setter.TableSetterTurning.finish.Goals as goal

pub returns-clause-full : goal.returns-clause-full
returns-clause-full c = λ e. says_nothing _ _ (c.turn_next.ensures.stepped.full e)

pub returns-then-self-clause-full : goal.returns-then-self-clause-full
returns-then-self-clause-full c = λ e. says_nothing _ _ c.if-self.true
