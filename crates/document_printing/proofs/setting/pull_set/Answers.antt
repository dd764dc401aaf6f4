use Rattle.std.proofs.Common.{take}
use Rattle.document_stages.specs.Pulling.{broken_off}
use Rattle.document_reader.specs.Page.{plain_so_far, plain_supply}
use Rattle.document_printing.proofs.setting.pull_set.Goals as goal

pub returns-clause-whole : goal.returns-clause-whole
returns-clause-whole g c q is kept short =
    let s = c.args.setup.now in
    c.format_set.ensures.answers (plain_supply s.stages s.characters q) (c.read_page-page.ensures.whole q is kept short)

pub returns-clause-cut : goal.returns-clause-cut
returns-clause-cut g c q n is after few short =
    let s = c.args.setup.now in
    c.format_set.ensures.answers (broken_off (plain_so_far s.stages s.characters (take n q.bytes))) (c.read_page-page.ensures.cut q n is after few short)
