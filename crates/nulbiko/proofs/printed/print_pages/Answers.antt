use Rattle.nulbiko.proofs.DocumentRun.{plain_printed}
use Rattle.nulbiko.proofs.printed.print_pages.Goals as goal

pub returns-in-Bytes-clause-printed : goal.returns-in-Bytes-clause-printed
returns-in-Bytes-clause-printed c held short bytes is =
    plain_printed _ _ _ _ _ _ _ _ _ _ _ c.in-Bytes.is (c.print_page-run.ensures.printed short) held is c.ended.ensures.moves c.ended.ensures.outcome c.ended.ensures.dropped
