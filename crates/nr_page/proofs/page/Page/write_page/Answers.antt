use Rattle.nr_page.specs.Rows.{sheet_of}
use Rattle.nr_page.specs.Page.{Holds}
use Rattle.nr_page.proofs.PageText.{page_bytes_is}
use Rattle.nr_page.proofs.page.Page.write_page.Goals as goal

pub returns-in-Ok-clause-ok : goal.returns-in-Ok-clause-ok
returns-in-Ok-clause-ok g c = λ lines holds.
    let page = sheet_of c.self.inside.texts c.self.inside.rows.items c.self.inside.row_count c.self.inside.charge c.self.inside.limit in
    let held : Holds lines page = rw (← c.self.view_is) at holds in
    rw (page_bytes_is c.args.faces lines page c.args.rows c.max-count.result held c.max-count.ensures) at c.in-Ok.ensures.ok

pub returns-in-Err-clause-err : goal.returns-in-Err-clause-err
returns-in-Err-clause-err g c = λ lines holds.
    let page = sheet_of c.self.inside.texts c.self.inside.rows.items c.self.inside.row_count c.self.inside.charge c.self.inside.limit in
    let held : Holds lines page = rw (← c.self.view_is) at holds in
    rw (page_bytes_is c.args.faces lines page c.args.rows c.max-count.result held c.max-count.ensures) at c.in-Err.ensures.err

pub returns-in-Ok-clause-err : goal.returns-in-Ok-clause-err
returns-in-Ok-clause-err g c = tt

pub returns-in-Ok-clause-failures : goal.returns-in-Ok-clause-failures
returns-in-Ok-clause-failures g c = c.in-Ok.ensures.failures
