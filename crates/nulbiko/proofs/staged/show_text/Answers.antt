use Rattle.nulbiko.proofs.staged.show_text.Goals as goal

pub returns-clause-handed : goal.returns-clause-handed
returns-clause-handed c short = c.hand_all.ensures.handed _ (c.shown_of-shown.ensures short)

pub returns-clause-code : goal.returns-clause-code
returns-clause-code c short = c.hand_all.ensures.code _ (c.shown_of-shown.ensures short)
