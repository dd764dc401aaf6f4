use Rattle.nulbiko.proofs.DocumentRun.{shown_printed}
use Rattle.nulbiko.proofs.printed.print_fixed.Goals as goal

pub returns-clause-printed : goal.returns-clause-printed
returns-clause-printed c held short bytes is =
    shown_printed _ _ _ _ _ _ _ _ _ _ _ _ _ _ _ _ _ c.over-shown.ensures.held (c.print_page-run.ensures.printed short) c.finish-pages.ensures.shown held is
    c.ended.ensures.moves c.ended.ensures.outcome c.ended.ensures.dropped
