use Rattle.std.proofs.Common.{refl}
use Rattle.nulbiko.proofs.staged.code_text.Goals as goal

pub returns-clause-handed : goal.returns-clause-handed
returns-clause-handed c short plain =
    c.hand_all.ensures.handed _ (c.read_own_page-coded.ensures.whole _ c.over-text.ensures.supply refl (record { page_is = short; man_is = short }) plain)

pub returns-clause-code : goal.returns-clause-code
returns-clause-code c short plain =
    c.hand_all.ensures.code _ (c.read_own_page-coded.ensures.whole _ c.over-text.ensures.supply refl (record { page_is = short; man_is = short }) plain)
