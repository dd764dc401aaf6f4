use Rattle.std.proofs.Common.{refl}
use Rattle.filters_own.proofs.looking.count_prefix.Goals as goal

pub returns-clause-items : goal.returns-clause-items
returns-clause-items c short =
    c.counted.ensures.items _ (c.read_page-page.ensures.whole _ c.over-text.ensures.supply refl short.page) refl short.plain
