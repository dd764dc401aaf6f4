use Rattle.utf8_own_page.proofs.Looks.{page-counts}
use Rattle.utf8_own_page.proofs.looking.look_at_page.Goals as goal

pub returns-clause-items : goal.returns-clause-items
returns-clause-items g c q is never short =
    page-counts _ _ _ c.args.frames q.bytes _ _ _ _ _ c.begin.ensures.room c.look_through.ensures.room c.new-listener.ensures c.begin.ensures.items
    (c.look_through.ensures.items q is never short) (c.look_through.ensures.listener q is never short) c.end_look.ensures.items
